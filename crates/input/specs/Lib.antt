-- What a program has read of its input.
--
--   Came    what came of the input
pub mod Came
