-- Laws of the loops.
--
--   Added   the sum of a run's readings
--   Put     the sums of runs, one after the other
pub mod Added
pub mod Put
