-- Laws on the effects of a plan that callers cite.
--
--   Weights    the weights by the plan's denominator and divisors
pub mod Weights
