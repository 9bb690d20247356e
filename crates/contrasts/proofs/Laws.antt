-- The theorems, each for any list of factors; after them what they come to where factors are alike, and at two and three levels.
--
--   Digits         totals and passes by the lowest digit: what inductions go by
--   Order          passes in any order end as the totals
--   Steps          the report's own steps do
--   Divisors       divisors, weights and the denominator
--   Orthogonal     the coefficients are orthogonal
--   Squares        the sum of squares, the bound on numerators
--   Repeats        runs that are made more than once
--   Shares         any sums within r times a limit are those of r readings within it
--   Recovery       readings back from totals
--   CheckSum       the sum of all totals
--   Bounds         how large values grow
--   Degrees        the degrees of rows
--   Rows           the rows of effects, and sums over rows
--   Stretches      a pass stretch by stretch
--   Lists          the theorems over columns that are lists
--   Within         bounds on all values of a list
--   Undo           the sums back from totals, one factor after the other
--   Replicated     plans of k factors that are alike
--   TwoLevels      two levels, in the words of the rules
--   ThreeLevels    three levels, in the words of the rules
--   Blocks         three blocks: the block amount is part of a row
--   Limits         what readings within their limit come to
--   Levels         the number of levels, and the factor of so many
--   Signed         readings times signs, and contrasts whose signs turn
--   Small          values that a pass or a step admits fit an i64
--   Sets           a turn of a loop over sets of values: its sums fit, and it writes what the rows say
--   Rounds         a turn of the loop that makes a round of the check
--   Both           two factors alike, passed in one go
pub mod Digits
pub mod Order
pub mod Steps
pub mod Divisors
pub mod Orthogonal
pub mod Squares
pub mod Repeats
pub mod Shares
pub mod Recovery
pub mod CheckSum
pub mod Bounds
pub mod Degrees
pub mod Rows
pub mod Stretches
pub mod Lists
pub mod Within
pub mod Undo
pub mod Replicated
pub mod TwoLevels
pub mod ThreeLevels
pub mod Blocks
pub mod Limits
pub mod Levels
pub mod Signed
pub mod Small
pub mod Sets
pub mod Rounds
pub mod Both
