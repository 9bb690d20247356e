-- What the calls on numbers in bytes promise.
--
--   Numbers     numbers in bytes
--   Examples    some of four bytes
pub mod Numbers
pub mod Examples
