-- What the calls on sheets promise.
--
--   Sheet      the number of a sheet, and what the two calls give
--   Laws       laws on sheets
--   Examples   small sheets whose runs are made more than once, and with a block word at three levels
pub mod Sheet
pub mod Laws
pub mod Examples
