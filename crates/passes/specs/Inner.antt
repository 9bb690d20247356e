-- What the inner functions ask of what they are handed; no promise of a call.
--
--   Lent   what they ask
pub mod Lent
