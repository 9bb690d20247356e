-- Laws of the code's numbers and answers.
--
--   Division   a total over a power of two, as doubles
--   Negation   the total as it is printed
--   Limit      the limit of a total
--   Answers    the answers of the call, by the number that was found
--   Laws       the theorems on the definitions of specs/
pub mod Division
pub mod Negation
pub mod Limit
pub mod Answers
pub mod Laws
