-- What the sums of runs ask of the readings and columns that they are handed. What they leave is `run_sums` and `run_sums_in` of `contrasts`.
--
--   Ready   what they ask
pub mod Ready
