-- Laws that the crates above cite, of what specs/Laws defines.
--
--   Machine   that the code's signed values are the numbers
--   Spread    a list that a loop writes in turns, at places a fixed distance apart
--   Parts     a list that is worked part by part
pub mod Machine
pub mod Spread
pub mod Parts
