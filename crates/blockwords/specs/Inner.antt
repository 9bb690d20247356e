-- What the inner functions ask of what they are handed, and what they leave; no promise of a call.
--
--   Ready      what is known of a list, and of a column of lists
--   Written    the two halves of a line
pub mod Ready
pub mod Written
