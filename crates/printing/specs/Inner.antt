-- What the inner functions ask of what they are handed, and what they leave; no promise of a call.
--
--   Ready     what they ask
--   Written   what they write
pub mod Ready
pub mod Written
