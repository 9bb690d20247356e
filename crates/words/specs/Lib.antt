-- Words: definitions, and laws that callers cite.
--
--   Words    words and their letters, as the rules speak of them
--   Laws     laws on letters and combinations
pub mod Words
pub mod Laws
