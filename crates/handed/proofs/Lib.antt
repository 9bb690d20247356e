-- Laws that the proofs cite.
--
--   Spans      the first and the last bytes of a sheet
pub mod Spans
