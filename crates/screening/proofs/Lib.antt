-- Laws of the proofs.
--
--   Forming   the loop that forms the words of factors
--   Judging   what the screening call refuses, as the code judges it
--   Laws      the theorems on the definitions of specs/
--   Examples  worked examples, computed
pub mod Forming
pub mod Judging
pub mod Laws
pub mod Examples
