-- What the inner functions ask of what they are handed, and what they leave; no promise of a call.
--
--   Walk     the walk over a sheet, from field to field
--   Places   where fields end, by their places
pub mod Walk
pub mod Places
