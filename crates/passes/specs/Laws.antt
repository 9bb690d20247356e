-- Laws on what the passes ask.
--
--   Powers   columns of levels to the power k
--   Plans    the readings of a plan that are not refused
pub mod Powers
pub mod Plans
