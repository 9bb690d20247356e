-- What the calls on effects promise.
--
--   Effects    the rows, the divisors and the weights of a plan's effects
--   Examples   rows, divisors and weights of two factors, computed
--   Laws       laws on effects that callers cite
--   Inner      what the inner functions ask and leave; no promise of a call
pub mod Effects
pub mod Examples
pub mod Laws
pub mod Inner
