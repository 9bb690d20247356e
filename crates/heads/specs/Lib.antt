-- What a plan in bytes is.
--
--   Heads       the plan of a head, and what is refused of it
--   Laws        laws on calls on such a plan, and on the first bytes of a sheet
--   Examples    small heads
pub mod Heads
pub mod Laws
pub mod Examples
