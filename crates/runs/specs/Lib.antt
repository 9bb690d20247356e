-- What the run call promises, and laws that callers cite.
--
--   Run        the call's answer
--   Examples   small plans, computed
--   Laws       laws on runs and blocks
pub mod Run
pub mod Examples
pub mod Laws
