-- Laws on the step call.
--
--   Alike    places beyond a plan's counts are ignored
pub mod Alike
