-- Laws that the proofs cite.
--
--   Counted    how many effects a plan has, and what is known of one that has some
--   Filling    the loops that fill a list, one place a turn or three
--   Rowed      the rows of effects
--   Shared     their divisors
--   Divided    the loops that divide the table of divisors
--   Weighed    their weights
pub mod Counted
pub mod Filling
pub mod Rowed
pub mod Shared
pub mod Divided
pub mod Weighed
