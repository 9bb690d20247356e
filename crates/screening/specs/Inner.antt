-- What the inner functions form; no promise of a call.
--
--   Formed   the words of factors, and pairs of words, as code forms them
pub mod Formed
