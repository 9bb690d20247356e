-- What the inner functions ask of what they are handed, and what they leave; no promise of a call.
--
--   Written   the last field of a row
pub mod Written
