-- Sheets as they are written, and that they are read back.
--
--   Writer       the bytes of a sheet
--   RoundTrip    what is asked and said of a sheet that is read back
--   Examples     small sheets
pub mod Writer
pub mod RoundTrip
pub mod Examples
