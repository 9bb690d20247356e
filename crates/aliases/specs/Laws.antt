-- Laws on aliases that callers cite.
--
--   Counted    the loop that counts the replaced letters with sign 1, and the numbers of the alias call
--   InRuns     what an alias means: the effect and its base word in every run
--   BaseWord   the base word is an effect of the base factors; base words of effects combined
--   Alike      places beyond the counts are ignored
pub mod Counted
pub mod InRuns
pub mod BaseWord
pub mod Alike
