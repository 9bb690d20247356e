-- Laws that the proofs cite.
--
--   Told    what the estimate says of a total that it was handed as bits
pub mod Told
