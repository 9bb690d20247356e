-- What the blocking call promises.
--
--   Blockings   the lists, what is refused, and the answer
--   Examples    lists, numbers and columns, computed
--   Inner       what only private functions ask or leave
pub mod Blockings
pub mod Examples
pub mod Inner
