-- What the programs of the gate share.
--
--   Records    records of the input
--   Prints     what is printed
--   Numbers    numbers of eight bytes
--   Columns    columns that a call is lent
pub mod Records
pub mod Prints
pub mod Numbers
pub mod Columns
