-- What the passes ask of the columns that they are lent, and laws that callers cite.
--
--   Ready   what the calls ask
--   Laws    laws on what they ask
--   Inner   what the inner functions ask; no promise of a call
pub mod Ready
pub mod Laws
pub mod Inner
