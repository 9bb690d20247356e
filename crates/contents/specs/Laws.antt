-- Laws that callers cite.
--
--   Readings    the readings of a body
--   Repeats     how often each run is made
--   Holding     the plan as the code holds it
pub mod Readings
pub mod Repeats
pub mod Holding
