-- Whether a test holds of some number below a bound.
--
--   some n f    the test f holds of one of the numbers below n
use Rattle.std.specs.Prelude.{Bool, false, ◌||◌, ℕ, zero, suc}

unfoldable pub some : ℕ → (ℕ → Bool) → Bool
some zero f = false
some (suc n) f = some n f || f n
