-- What the inner functions ask of what they are handed, and what they leave; no promise of a call.
--
--   Lent   the columns that are lent to the screening call, and its number of a sheet that the reader accepts
pub mod Lent
