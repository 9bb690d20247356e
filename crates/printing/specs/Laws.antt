-- Laws on the text of a sheet.
--
--   Rows      the lines of rows, as the loop writes them
--   Tables    the text of a table, and of what the table call answers
--   Sheets    the text of a sheet, whatever its length
--   Lengths   how long texts are, and the text of a sheet
--   Inputs    the text of what a program has read of its input
--   Places    the text of a sheet from its parts, by a buffer and a place
--   Numbered  and the lines of rows where the kinds are held as their numbers
pub mod Rows
pub mod Tables
pub mod Sheets
pub mod Lengths
pub mod Inputs
pub mod Places
pub mod Numbered
