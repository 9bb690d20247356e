-- What the calls for single figures promise.
--
--   Facts       the number of each call, and what it leaves in the places that it is lent
--   Examples    small plans in bytes
pub mod Facts
pub mod Examples
