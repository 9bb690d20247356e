-- What the program prints of a sheet.
--
--   Screened    the text of a sheet
--   Examples    texts of sheets, computed from their bytes
--   Laws        laws on these texts
--   Inner       what the inner functions ask and leave; no promise of a call
pub mod Screened
pub mod Examples
pub mod Laws
pub mod Inner
