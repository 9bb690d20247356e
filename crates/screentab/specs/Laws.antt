-- Laws on the text that the program prints of a sheet.
--
--   Texts     it is that of the printing call, or the line of the screening call's number
--   Numbers   that number, of a sheet that the printing call accepts: 21, 9, 13 or none
--   Lent      the columns that are lent to the screening call
--   Sheets    the text of a sheet, as code writes it
--   Inputs    the text of what the program has read of its input
--   Places    the line of a refusal, by a buffer and a place
pub mod Texts
pub mod Numbers
pub mod Lent
pub mod Sheets
pub mod Inputs
pub mod Places
