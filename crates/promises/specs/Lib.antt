-- What the calls promise.
--
--   Promised   each call's answer and lent slices, whole
pub mod Promised
