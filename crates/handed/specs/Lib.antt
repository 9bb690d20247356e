-- What the calls on columns and sheets promise besides what those on plans do.
--
--   Sheets    how many bytes of a sheet are its plan
--   Laws      that these bytes are a plan which is accepted
pub mod Sheets
pub mod Laws
