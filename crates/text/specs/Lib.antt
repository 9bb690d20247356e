-- Text in a lent buffer: what its bytes are, and laws that callers cite.
--
--   Text        bytes of a text, and what it is to have written some
--   Spelled     letters and numbers as text
--   Examples    small texts, computed
--   Laws        laws on texts
pub mod Text
pub mod Spelled
pub mod Examples
pub mod Laws
