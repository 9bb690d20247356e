-- Laws that the proofs cite.
--
--   Walking    the walk from field to field
--   Places     the same from place to place
--   Judging    refusal 1 as the code judges it
pub mod Walking
pub mod Places
pub mod Judging
