-- What the calls on the fields of a sheet promise.
--
--   Fields      the fields of a sheet, from its bytes
--   Tags        refusal 1 of the table of refusals
--   Laws        laws on fields
--   Examples    small sheets
--   Inner       what the inner functions ask and leave; no promise of a call
pub mod Fields
pub mod Tags
pub mod Laws
pub mod Examples
pub mod Inner
