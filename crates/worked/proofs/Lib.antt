-- Laws that the proofs cite.
--
--   Grown    what has been printed, counted and added grows by one more value
mod Grown
