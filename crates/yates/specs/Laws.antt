-- Laws on the pass call and the totals call.
--
--   Admitted    what is known of a pass that is not refused, and that this is all that it asks
--   Alike       places beyond a plan's counts are ignored
pub mod Admitted
pub mod Alike
