-- What the program reads and prints.
--
--   Arguments    what the bytes of an argument are
--   Listed       the line of a list of block words
--   Printed      the whole text
--   Examples     arguments and lines, computed
--   Laws         laws that the proofs cite
--   Inner        what the inner functions ask and leave; no promise of a call
pub mod Arguments
pub mod Listed
pub mod Printed
pub mod Examples
pub mod Laws
pub mod Inner
