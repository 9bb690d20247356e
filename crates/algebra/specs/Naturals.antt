-- Finite sums and largest values of natural numbers.
--
--   Σℕ n f      f 0 + .. + f (n - 1)
--   most n f    the largest of f 0, .., f (n - 1)
use Rattle.std.specs.Prelude.{ℕ, zero, suc, ◌+◌, max}

unfoldable pub Σℕ : ℕ → (ℕ → ℕ) → ℕ
Σℕ zero f = 0
Σℕ (suc n) f = Σℕ n f + f n

unfoldable pub most : ℕ → (ℕ → ℕ) → ℕ
most zero f = 0
most (suc n) f = max (most n f) (f n)
