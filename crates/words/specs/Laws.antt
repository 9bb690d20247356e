-- Laws on words that callers cite.
--
--   Letters    the letters of one word
--   Any        whether a test holds of one of some words
--   Combined   combinations of words
--   Parity     odd and even numbers of letters
--   Even       the words that are even wherever some words are, as combinations of these
pub mod Letters
pub mod Any
pub mod Combined
pub mod Parity
pub mod Even
