-- What the rows of one set are.
--
--   Inner    what the inner functions ask and leave; no promise of a call
pub mod Inner
