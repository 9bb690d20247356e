-- Laws of the loops, and of the call.
--
--   Held      sums of mild values, as code forms them
--   Worked    the turns of a stretch
--   Summed    the loop over the stretches of a column, and that over all factors
--   Divided   the loop that divides sums
--   Found     what the parts of the call are lent, and what they find
--   Laws      the theorems on the definitions of specs/
pub mod Held
pub mod Worked
pub mod Summed
pub mod Divided
pub mod Found
pub mod Laws
