-- Laws of the loops.
--
--   Searched   the search for a value beyond a limit
--   Sizes      the bits of the sizes of a column
pub mod Searched
pub mod Sizes
