-- What the walk promises and asks, and laws that callers cite.
--
--   After   what rows and sums hold after e totals
--   State   the state of the loops, after e totals
--   Ready   what the walk asks
--   Inner   what the inner functions ask and leave; no promise of a call
pub mod After
pub mod State
pub mod Ready
pub mod Inner
