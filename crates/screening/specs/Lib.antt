-- What the screening call promises, and laws that callers cite.
--
--   Screening   the call's number, and the columns that it leaves; its figures are the table call's
--   Inner       what the inner functions form; no promise of a call
pub mod Screening
pub mod Inner
