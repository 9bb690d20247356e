-- What rows and sums hold after e totals: what effects 0 to e - 1 bring (request 3). The total of effect i is `t i`.
--
--   kind_at p marks i        the kind of effect i, as code holds it: that of its row
--   numerator_at p t i       the numerator of effect i
--   rows_after p t e         the rows after e totals
--   sums_by kind num t e     the sums after e totals, by kinds and numerators
--   sums_after p t marks e   the sums after e totals: numerators and degrees of the four kinds, and the sum of the totals
use Rattle.std.specs.Prelude.{List, ℕ}
use Rattle.algebra.specs.Sorted.{sum_at}
use Rattle.algebra.specs.Sum.{Σ}
use Rattle.algebra.specs.Tab.{tab}
use Rattle.contrasts.specs.Rows.{row_of}
use Rattle.contrasts.specs.Totals.{Column, numerator_of}
use Rattle.plan.specs.declared.types.Plan.{Plan}
use Rattle.plan.specs.Plan.{factors_of}
use Rattle.rows.specs.Kinds.{rows_in, kind_of, code_of}
use Rattle.walks.specs.declared.types.Sums.{Sums}

-- V6 to V9
abbrev pub kind_at : Plan → List ℕ → ℕ → ℕ
kind_at p marks i = code_of (kind_of p marks (row_of (factors_of p) i))

-- T19: "A numerator is a total squared times (denominator over divisor)."
abbrev pub numerator_at : Plan → Column → ℕ → ℕ
numerator_at p t i = numerator_of (factors_of p) i (t i)

-- V15: "after e totals, rows [..] hold exactly what effects 0 to e - 1 bring": each its numerator, to its own row
unfoldable pub rows_after : Plan → Column → ℕ → List ℕ
rows_after p t e = tab (rows_in p) (sum_at (row_of (factors_of p)) (numerator_at p t) e)

-- effect i is of the kind `kind i`, brings the numerator `num i` and one degree, and has the total `t i`
unfoldable pub sums_by : (ℕ → ℕ) → (ℕ → ℕ) → Column → ℕ → Sums
sums_by kind num t e = record {
  numerators = tab 4 (sum_at kind num e);
  degrees = tab 4 (sum_at kind (λ i. 1) e);
  totals = Σ e t;
}

-- V15: "[..] and sums [..]": each its numerator and one degree, to the sums of its row's kind; and its total, to the sum of the totals
abbrev pub sums_after : Plan → Column → List ℕ → ℕ → Sums
sums_after p t marks e = sums_by (kind_at p marks) (numerator_at p t) t e
