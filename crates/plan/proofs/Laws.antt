-- Laws about plans that callers cite.
--
--   Combinations   the combinations of one or more of some words
--   Accepted       what is known of a plan that is accepted
--   Accepts        that this is all that acceptance asks
--   Answers        the answers of calls that take a plan
--   Lowest         the number of a call is the first that applies
--   Confounded     the confounded effects of an accepted plan
--   Sizes          the factors and the runs of an accepted plan
--   Limits         the plan's limits, and that readings within theirs leave none
--   Beyond         a number beside a limit
--   Coefficients   the coefficients and totals of two levels, by letters
--   Digits         the digits of a three-level block word
--   Words          the block words of a plan, by its levels
--   Alike          places beyond the counts are ignored
pub mod Combinations
pub mod Accepted
pub mod Accepts
pub mod Answers
pub mod Lowest
pub mod Confounded
pub mod Sizes
pub mod Limits
pub mod Beyond
pub mod Coefficients
pub mod Digits
pub mod Words
pub mod Alike
