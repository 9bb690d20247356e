-- The theorems on the definitions of specs/.
--
--   Laws   the theorems
pub mod Laws
