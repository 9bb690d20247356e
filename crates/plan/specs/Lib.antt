-- What the calls about plans promise, and laws that callers cite.
--
--   Plan       what a plan says: its words, factors, runs, readings and confounded effects
--   Limits     the limits of its readings, run sums and numerators, and what is beyond one
--   Outcome    what every call answers, and the first number that applies
--   Refusals   the refusals by name, and answers by them
--   Check      the refusals 2 to 8 and 16, and the check's answer
--   Examples   the small inputs of refusals 2 to 8 and 16
pub mod Plan
pub mod Limits
pub mod Outcome
pub mod Refusals
pub mod Check
pub mod Examples
