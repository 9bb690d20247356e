-- The lines of a printed table.
--
--   Lines       what each line is
--   Examples    the lines of the rules' example, computed
--   Laws        laws on lines
--   Inner       what the inner functions ask and leave; no promise of a call
pub mod Lines
pub mod Examples
pub mod Laws
pub mod Inner
