-- What the pass and the totals call promise, and laws that callers cite.
--
--   Calls      the calls' numbers and columns
--   Examples   small columns, computed
--   Laws       laws on the calls
pub mod Calls
pub mod Examples
pub mod Laws
