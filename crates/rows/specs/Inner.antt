-- What the inner functions ask of what they are handed, and what they leave; no promise of a call.
--
--   Written   what they ask of marks, and leave in a list of kinds
pub mod Written
