-- Laws that the program's proofs cite, and those of a program that keeps its buffers, places and loops itself.
--
--   Digits    an argument, read digit by digit
--   Bytes     the same by its length
--   Plans     the plan that has a list as its block words
--   Placed    its places for them, where they are put there word by word
--   Lists     the line of a list, from its parts
--   Columns   the lists of a column, one after the other
--   Texts     the whole text, from its lines
--   Places    lines and texts, by a buffer and a place
pub mod Digits
pub mod Bytes
pub mod Plans
pub mod Placed
pub mod Lists
pub mod Columns
pub mod Texts
pub mod Places
