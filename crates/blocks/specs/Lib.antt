-- What the block amount asks of the run sums that it is handed. What it gives is `block_numerator` of `contrasts`.
--
--   Ready   what it asks
pub mod Ready
