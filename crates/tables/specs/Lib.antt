-- What the calls for tables of plans in bytes and of sheets promise, besides `TableLeft` of the crate `figures`.
--
--   Sheets      the number of the table of a sheet
--   Examples    a small sheet
--   Inner       what the inner functions ask and leave; no promise of a call
pub mod Sheets
pub mod Examples
pub mod Inner
