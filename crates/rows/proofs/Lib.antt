-- Laws that the proofs cite.
--
--   Putting    the loops that put kinds at rows
--   Judging    refusal 13 as the code judges it
--   Laws       the theorems on the definitions of specs/
pub mod Putting
pub mod Judging
pub mod Laws
