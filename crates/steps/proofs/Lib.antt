-- Laws of the loops and of the call.
--
--   Worked   the turns of a step
--   Called   what the call hands to the inner functions
pub mod Worked
pub mod Called
