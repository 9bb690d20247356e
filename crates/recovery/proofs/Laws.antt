-- Laws on the recovery call.
--
--   Judged      what the inner functions find is what the call promises
--   Alike       places beyond a plan's counts are ignored
pub mod Judged
pub mod Alike
