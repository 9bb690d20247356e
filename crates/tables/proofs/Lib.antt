-- Laws that the proofs cite.
--
--   Called    a table of the plan of a head
--   Sheets    a table of a sheet
pub mod Called
pub mod Sheets
