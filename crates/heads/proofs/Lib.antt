-- Laws that the proofs cite.
--
--   Judging    what is refused of a head, as the code judges it
pub mod Judging
