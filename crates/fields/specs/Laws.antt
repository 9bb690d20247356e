-- Laws on the fields of a sheet that callers cite.
--
--   Enough     the steps of the definition do not matter
--   Passed     what is known of fields to which refusal 1 does not apply
--   Lengths    how many bytes fields take
--   Last       the body of tag 5 is the last bytes of the sheet
pub mod Enough
pub mod Passed
pub mod Lengths
pub mod Last
