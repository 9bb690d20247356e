-- What is written is read back.
--
--   Bytes        the bytes of numbers give the numbers
--   Back         the bytes of fields give the fields
--   Each         fields of one tag, one after the other
--   Plans        the plan that is read back
--   Readings     the readings that are read back
--   Plain        what is written are bytes
--   Heads        the law on a plan alone
--   RoundTrip    the law on the whole sheet
pub mod Bytes
pub mod Back
pub mod Each
pub mod Plans
pub mod Readings
pub mod Plain
pub mod Heads
pub mod RoundTrip
