-- What the table call promises, and laws that callers cite.
--
--   Table      the call's number, figures and columns
--   Examples   small tables, computed
--   Laws       laws on the call
--   Inner      what the inner functions ask and leave; no promise of a call
pub mod Table
pub mod Examples
pub mod Laws
pub mod Inner
