-- Laws of the calls.
--
--   Called   what the calls hand to the passes
pub mod Called
