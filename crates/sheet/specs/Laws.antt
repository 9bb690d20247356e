-- Laws on sheets that callers cite.
--
--   Admitted    what is known of a sheet that is accepted
--   Marks       the marks of such a sheet
--   Lengths     how long it is, and which part of it the marks are
--   Holding     the number of a sheet by the plan as the code holds it
pub mod Admitted
pub mod Marks
pub mod Lengths
pub mod Holding
