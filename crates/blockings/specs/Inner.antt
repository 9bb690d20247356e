-- What only private functions ask or leave.
--
--   Numbered   the lists by their numbers, as the code goes through them
--   Ready      what the two loops over these numbers ask
pub mod Numbered
pub mod Ready
