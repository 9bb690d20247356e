-- Laws on lines that callers cite.
--
--   Lines     lines, from their parts as the code writes them one after the other
--   Places    the same by a buffer and a place
pub mod Lines
pub mod Places
