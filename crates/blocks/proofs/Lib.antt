-- Laws of the block amount's functions.
--
--   Apart   what two block sums differ by
--   Added   the block sums, set by set
pub mod Apart
pub mod Added
