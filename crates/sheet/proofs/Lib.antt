-- Laws that the proofs cite.
--
--   Judging    what is refused, as the code judges it
--   Answering  the answers of the two calls
pub mod Judging
pub mod Answering
