-- The mathematics of contrasts, over any list of factors. First the definitions, in the order of the rules; then the examples that the
-- rules work out; then the theorems.
--
--   Factor      a factor and its law of orthogonal rows
--   Codings     the rows of coefficients of two to five levels
--   Factors     what makes a coding a factor: one computed test
--   Totals      totals, divisors and numerators
--   Passes      passes, and lists of pass calls
--   Steps       the report's own step
--   Checks      the rounds of the check
--   Rows        the rows of the table and their degrees
--   Blocks      three blocks of runs, and their amount
--   Limits      the limits of readings, values and numerators
--   Repeats     runs that are made more than once: run sums, and squares within runs
--   Columns     the definitions over columns that are lists
--   Recovery    readings back from totals
--   Contrast    the readings of some runs less those of the others
--   Laws        what laws speak of and no rule names
pub mod Factor
pub mod Codings
pub mod Factors
pub mod Totals
pub mod Passes
pub mod Steps
pub mod Checks
pub mod Rows
pub mod Blocks
pub mod Limits
pub mod Repeats
pub mod Columns
pub mod Recovery
pub mod Contrast
pub mod Laws
