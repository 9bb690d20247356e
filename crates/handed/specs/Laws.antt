-- Laws that callers cite.
--
--   Heads    the first bytes of a sheet that the reader accepts
--   Told     the number of an answer
pub mod Heads
pub mod Told
