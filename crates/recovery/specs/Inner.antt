-- What the inner functions ask of what they are handed, and what they leave; no promise of a call.
--
--   Lent       what they are lent
--   Answered   what they answer
pub mod Lent
pub mod Answered
