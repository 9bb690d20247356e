-- The theorems on the definitions of specs/.
--
--   Factors    the factors, made with the proofs that their codings are lawful
--   Laws       the theorems
--   Examples   the worked examples, computed
pub mod Factors
pub mod Laws
pub mod Examples
