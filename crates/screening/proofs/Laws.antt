-- Laws on the screening profile that callers cite.
--
--   Words       the base words of main effects and of interactions of two factors
--   Meeting     what the tests of the profile say, factor by factor
--   Admitted    the call's number, by that of the table call
--   Resolution  nothing meets exactly when no three factors' words combine to the empty word
--   Alike       places beyond the counts are ignored
pub mod Words
pub mod Meeting
pub mod Admitted
pub mod Resolution
pub mod Alike
