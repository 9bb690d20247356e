-- What the inner functions ask of what they are handed, and what they leave; no promise of a call.
--
--   Divisors   the divisors of three-level factors, as one list
pub mod Divisors
