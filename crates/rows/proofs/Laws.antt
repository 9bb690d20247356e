-- Laws on rows that callers cite.
--
--   Kinds    kinds, and the numbers by which the code tells them
--   Rows     how many rows there are, and marks
pub mod Kinds
pub mod Rows
