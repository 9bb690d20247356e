-- Mathematics that knows nothing of experiments: the definitions, and then the laws on them.
--
--   Tests       tests that are computed
--   Search      whether a test holds of some number below a bound
--   Sum         finite sums Σ of integers
--   Naturals    finite sums and largest values of natural numbers
--   Fractions   fractions, added without rounding
--   Bits        sets as the binary digits of a number
--   Tab         the list of a function's first n values
--   Sorted      terms sorted by a key, and added up
--   Those       the entries of a list that pass a test
--   Laws        the laws
pub mod Tests
pub mod Search
pub mod Sum
pub mod Naturals
pub mod Fractions
pub mod Bits
pub mod Tab
pub mod Sorted
pub mod Those
pub mod Laws
