-- What the calls on the contents of a sheet promise.
--
--   Contents    what fields say
--   Held        the plan as the code holds it
--   Examples    plans as they are held, and repeats as fields say them, computed
--   Laws        laws on readings, on repeats and on plans that are held
pub mod Contents
pub mod Held
pub mod Examples
pub mod Laws
