-- What the alias call promises, and laws that callers cite.
--
--   Alias      the call's answer
--   Examples   the starred run, computed
--   Laws       laws on aliases
pub mod Alias
pub mod Examples
pub mod Laws
