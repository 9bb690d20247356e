-- What is printed of a sheet.
--
--   Printed     the text of a sheet
--   Input       what a program has read of its input, and that its text is the input's
--   Examples    the text of the rules' example, computed from the bytes of its sheet
--   Laws        laws on texts of sheets
--   Inner       what the inner functions ask and leave; no promise of a call
pub mod Printed
pub mod Input
pub mod Examples
pub mod Laws
pub mod Inner
