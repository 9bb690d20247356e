-- What laws speak of and no rule names; the laws are in proofs/.
--
--   Bounds   how large a pass or step makes values
pub mod Bounds
