-- Laws that the proofs cite.
--
--   Rounded    the rounds of the check
--   Checked    the check number from the run sums
--   Squared    the sum of squared readings, or of squared run sums
--   Spread     the squares of readings about their run's mean
--   Judged     what is refused
--   Formed     what is handed to the walk, and what it makes
--   Made       the figures by effects
--   Moved      the block amount of a three-level plan
pub mod Rounded
pub mod Squared
pub mod Spread
pub mod Checked
pub mod Judged
pub mod Formed
pub mod Made
pub mod Moved
