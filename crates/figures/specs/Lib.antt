-- What the calls for a table as numbers promise.
--
--   Numbers     the table as numbers in lent slices
--   Examples    the order of these numbers
--   Laws        laws on calls that are handed room, and on those that are not
pub mod Numbers
pub mod Examples
pub mod Laws
