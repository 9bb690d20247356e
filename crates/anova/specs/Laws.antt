-- Laws on the table call.
--
--   Admitted    what is known of a table that is not refused
--   Blocks      the block amount of a three-level plan, and what it leaves
--   Within      what the table's rows add up to, and that none of its numbers exceeds the limit
--   After       what the walk holds after all totals is the table's by effects
--   Alike       places beyond a plan's counts are ignored
pub mod Admitted
pub mod Blocks
pub mod Within
pub mod After
pub mod Alike
