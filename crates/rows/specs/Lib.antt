-- What the calls on rows promise.
--
--   Kinds      the kinds of rows, and the marks that are refused
--   Examples   kinds of rows, computed
--   Inner      what the inner functions ask and leave; no promise of a call
pub mod Kinds
pub mod Examples
pub mod Inner
