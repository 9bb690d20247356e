-- Finite sums of integers.
--
--   Σ n f    f 0 + .. + f (n - 1)
--   δ i j    1 where i and j are equal, else 0
use Rattle.std.specs.Prelude.{cond, ℕ, zero, suc, eqb, ℤ, pos, ◌+ℤ◌}

unfoldable pub Σ : ℕ → (ℕ → ℤ) → ℤ
Σ zero f = pos 0
Σ (suc n) f = Σ n f +ℤ f n

abbrev pub δ : ℕ → ℕ → ℤ
δ i j = cond (eqb i j) (pos 1) (pos 0)
