-- Laws on estimates that callers cite.
--
--   Doubles      a number has one double
--   Exact        the double of a quotient is the quotient, and no other double is
--   Powers       the divisors of estimates as powers of two
--   Differences  the total of a difference, as journals print it
--   Given        what a call that is not refused hands out, and what it asks
--   Totals       the totals of run sums are admitted
--   Alike        places beyond the counts are ignored
pub mod Doubles
pub mod Exact
pub mod Powers
pub mod Differences
pub mod Given
pub mod Totals
pub mod Alike
