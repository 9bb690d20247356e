-- The proofs of the claims: a file for each, by the claim's name.
--
--   LowestNumber, Refusals, Letters, HighMinusLow, CheckNumbers, AnyOrder, Steps, SumOfSquares, TableAddsUp, OneWalk, ThreeBlocks,
--   EveryBlocking, Screening, ReturnTrip, Starred, WrongPrograms
pub mod LowestNumber
pub mod Refusals
pub mod Letters
pub mod HighMinusLow
pub mod CheckNumbers
pub mod AnyOrder
pub mod Steps
pub mod SumOfSquares
pub mod TableAddsUp
pub mod OneWalk
pub mod ThreeBlocks
pub mod EveryBlocking
pub mod Screening
pub mod ReturnTrip
pub mod Starred
pub mod WrongPrograms
