-- Laws on the lists that readers cite.
--
--   Rising     what strictly rising words are
--   Members    which lists there are
--   Order      they come in rising order, and none comes twice
--   Numbered   the lists by their numbers are all lists
pub mod Rising
pub mod Members
pub mod Order
pub mod Numbered
