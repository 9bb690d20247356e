-- What the copies of readings and of values leave.
--
--   copied xs ys    xs in the place of ys, if they have one length, and else ys
use Rattle.std.specs.Prelude.{cond, List, eqb, ℤ, length}

unfoldable pub copied : List ℤ → List ℤ → List ℤ
copied xs ys = cond (eqb (length xs) (length ys)) xs ys
