-- What the step call promises.
--
--   Step        the call's number, and the column that it writes
--   Examples    small columns, computed
--   Laws        laws on the call
--   Inner       what the inner functions ask and leave; no promise of a call
pub mod Step
pub mod Examples
pub mod Laws
pub mod Inner
