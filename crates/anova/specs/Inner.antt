-- What the inner functions ask of what they are handed, and what they leave; no promise of a call.
--
--   Ready      what they ask
--   Readings   what they form of the readings: the squares about their run's mean, and a round of the check
--   Effects    the table by its effects alone, before the block amount leaves its row
--   Figures    the figures that they make of all of it
pub mod Ready
pub mod Readings
pub mod Effects
pub mod Figures
