-- Laws that callers cite.
--
--   Roomed      room for the figures of a table, and a call with it and without it
--   Answered    the same call step by step: length by length, and by what the call for the table answers
pub mod Roomed
pub mod Answered
