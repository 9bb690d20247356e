-- The recovery call.
--
--   Calls      its number, and the column that it leaves
--   Examples   small columns, computed
--   Inner      what the inner functions ask and leave; no promise of a call
pub mod Calls
pub mod Examples
pub mod Inner
