-- Laws that the proofs cite.
--
--   Lent        the number of a call on the plan of a head, and a place that it is lent, by what the call on the plan answers
--   Answered    the run call, the alias call and the estimate so
pub mod Lent
pub mod Answered
