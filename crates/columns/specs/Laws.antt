-- Laws on columns that callers cite.
--
--   Lengths     refusal 11, of an accepted plan, as the code compares
--   Admitted    what is known of columns that are not refused, and that this is all that is asked
--   Alike       places beyond a plan's counts are ignored
--   Copies      the copy of readings to a column of as many places
pub mod Lengths
pub mod Admitted
pub mod Alike
pub mod Copies
