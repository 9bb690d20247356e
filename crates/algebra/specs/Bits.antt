-- Sets of small numbers as the binary digits of a number.
--
--   bit w i, is_set w i    digit i of w, and whether it is 1
--   bits n f              the number whose digits below n are those of which f holds
use Rattle.std.specs.Prelude.{Bool, cond, ℕ, ◌/◌, ◌%◌, ◌^◌, eqb}
use Rattle.algebra.specs.Naturals.{Σℕ}

abbrev pub bit : ℕ → ℕ → ℕ
bit w i = w / 2 ^ i % 2

abbrev pub is_set : ℕ → ℕ → Bool
is_set w i = eqb (bit w i) 1

unfoldable pub bits : ℕ → (ℕ → Bool) → ℕ
bits n f = Σℕ n (λ i. cond (f i) (2 ^ i) 0)
