-- Laws that callers cite.
--
--   Called     a call on the plan of a head, by whether the head is refused
--   Sheets     the first bytes of a sheet are a head
pub mod Called
pub mod Sheets
