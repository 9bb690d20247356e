-- Terms sorted by a key: a list whose place w has the sum of those of the first n terms whose key is w.
--
--   sum_at key f n w     the sum of those of the first n terms f whose key is w
--   sorted r key f n    these sums, for the keys below r
use Rattle.std.specs.Prelude.{cond, List, ℕ, eqb}
use Rattle.algebra.specs.Naturals.{Σℕ}
use Rattle.algebra.specs.Tab.{tab}

unfoldable pub sum_at : (ℕ → ℕ) → (ℕ → ℕ) → ℕ → ℕ → ℕ
sum_at key f n w = Σℕ n (λ i. cond (eqb (key i) w) (f i) 0)

abbrev pub sorted : ℕ → (ℕ → ℕ) → (ℕ → ℕ) → ℕ → List ℕ
sorted r key f n = tab r (sum_at key f n)
