-- What the inner functions ask of what they are handed, and what they leave; no promise of a call.
--
--   Slices   lengths of slices as the code compares them
pub mod Slices
