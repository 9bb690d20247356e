-- The demands, as theorems about the calls' own definitions: what is claimed. The proofs are in proofs/, a file for each claim.
--
--   LowestNumber   demand 1: the number of every call is the first that applies, in one order of checks
--   Refusals       demand 1: which numbers there are, and that nothing is written
--   Letters        demand 2: coefficients, totals, blocks and aliases in letters, at two levels
--   HighMinusLow   estimates and aliases with the signs that journals print
--   CheckNumbers   demand 2: both checks, in the rules' words
--   AnyOrder       demand 3: passes in any order
--   Steps          k steps give the totals
--   SumOfSquares   demand 3: the exact sum of squares
--   TableAddsUp    demand 3: mean, kept, blocks and error
--   OneWalk        rows and sums after every total
--   ThreeBlocks    demand 2: three-level plans in three blocks
--   EveryBlocking  every way to block a small plan
--   Screening      the screening profile
--   ReturnTrip     demand 2: readings back from totals
--   Starred        the starred runs, as one fact
--   WrongPrograms  the programs that have to break their statements
--   Examples       worked examples
pub mod LowestNumber
pub mod Refusals
pub mod Letters
pub mod HighMinusLow
pub mod CheckNumbers
pub mod AnyOrder
pub mod Steps
pub mod SumOfSquares
pub mod TableAddsUp
pub mod OneWalk
pub mod ThreeBlocks
pub mod EveryBlocking
pub mod Screening
pub mod ReturnTrip
pub mod Starred
pub mod WrongPrograms
pub mod Examples
