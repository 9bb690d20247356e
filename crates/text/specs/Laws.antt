-- Laws on texts that callers cite.
--
--   Writing            texts one after the other
--   Decimal            numbers in decimal, as code writes them
--   Digits             what numbers in decimal stand for
--   Places             texts one after the other, by a buffer and a place
--   PlacesOfNumbers    numbers in decimal, by a buffer and a place
pub mod Writing
pub mod Decimal
pub mod Digits
pub mod Places
pub mod PlacesOfNumbers
