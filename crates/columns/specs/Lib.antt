-- What is refused of a column, and what a call that writes one answers.
--
--   Refusals   refusals 11 and 12, and the answer
--   Copies     the copy of readings
--   Laws       laws on them
pub mod Refusals
pub mod Copies
pub mod Laws
