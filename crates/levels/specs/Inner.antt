-- What the inner functions ask of what they are handed, and what they leave; no promise of a call.
--
--   Pairs     the two rows of two values
--   Triples   the three rows of three values
pub mod Pairs
pub mod Triples
