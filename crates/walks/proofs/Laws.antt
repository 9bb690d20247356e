-- Laws on the walk.
--
--   Parts     the sums that are held in two parts each
--   Walking   the course of the loops, effect by effect
--   After     what they hold is what rows and sums hold after e totals
--   Plans     the walk of a plan stays within its lists, and no sum wraps
pub mod Parts
pub mod Walking
pub mod After
pub mod Plans
