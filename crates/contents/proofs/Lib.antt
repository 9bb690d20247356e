-- Laws that the proofs cite.
--
--   Made    arrays that are made place by place
pub mod Made
