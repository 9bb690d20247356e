-- Laws that the proofs cite.
--
--   Parted    the sums that are held in two parts each
--   Walked    the loops over the totals
--   Planned   the walk of a plan: what the loops are handed, and what they make
--   Laws      the theorems on the definitions of specs/
pub mod Parted
pub mod Walked
pub mod Planned
pub mod Laws
