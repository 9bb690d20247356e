-- What the estimate call promises, and laws that callers cite.
--
--   Quotient   a total over a power of two, as a double
--   Estimate   the call's answer
--   Examples   small plans, computed
pub mod Quotient
pub mod Estimate
pub mod Examples
