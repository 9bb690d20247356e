-- Laws of the loops.
--
--   Worked   the turns of a stretch
--   Passed   the loop over the stretches of a column
--   Formed   the passes of all factors
--   Summed   the same of run sums
pub mod Worked
pub mod Passed
pub mod Formed
pub mod Summed
