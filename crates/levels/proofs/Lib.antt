-- Laws of the rows and of the turns.
--
--   PairRows     the rows of two values
--   TripleRows   the rows of three values
--   FourTurns    the turns of a stretch of two passes at two levels
--   NineTurns    the same at three levels
pub mod PairRows
pub mod TripleRows
pub mod FourTurns
pub mod NineTurns
