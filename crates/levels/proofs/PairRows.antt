-- The rows of two values, as code forms and holds them.
--
--   same_rows             rows that agree in each value are the same
--   rows-held             the rows of values that code holds
--   sum_back, gap_back    what code reads of such rows
--   rows-mild             the rows of small values are mild
--   put-made              the four values that code writes
use mathlib.Core.Path.{◌≡◌, refl, ◌∙◌}
use mathlib.Core.List.{List}
use Prim.Native.Nat.{ℕ, ◌+◌, ◌*◌}
use lib.IntN.{ℤ, ◌+ℤ◌, ◌-ℤ◌}
use lib.ListN.{set}
use Rattle.algebra.specs.Laws.Machine.{wrap}
use Rattle.algebra.proofs.Laws.Machine.{back}
use Rattle.contrasts.proofs.Laws.Sets.{sum-size, less-size}
use Rattle.contrasts.proofs.Laws.Small.{Small, Mild, sum-mild, less-mild, held}
use Rattle.levels.specs.declared.pairs.Rows.{Rows}
use Rattle.levels.specs.Inner.Pairs.{rows_by, put_rows, MildRows, FourPlaces}

pub same_rows : {a b c d : ℤ} → a ≡ c → b ≡ d → ◌≡◌ {A = Rows} (record { sum = a; gap = b }) (record { sum = c; gap = d })
same_rows p q = rw (p, q) refl

-- ---- values that code holds

module _ {a b : ℤ} (sa : Mild a) (sb : Mild b) where
  pub rows-held : rows_by (wrap a) (wrap b) ≡ rows_by a b
  rows-held = rw (held sa, held sb) refl

  module _ {r : Rows} (e : r ≡ rows_by (wrap a) (wrap b)) where
    pub sum_back : wrap r.sum ≡ a +ℤ b
    sum_back = rw (e ∙ rows-held) (back (a +ℤ b) (sum-size sa sb))

    pub gap_back : wrap r.gap ≡ a -ℤ b
    gap_back = rw (e ∙ rows-held) (back (a -ℤ b) (less-size sa sb))

-- ---- one pass, and the next

pub rows-mild : {a b : ℤ} → Small a → Small b → MildRows (rows_by a b)
rows-mild sa sb = record { sum = sum-mild sa sb; gap = less-mild sa sb }

module _ {xs : List ℤ} {i h : ℕ} {l u : Rows} (pre : FourPlaces xs i h l u) {s g : Rows}
    (es : s ≡ rows_by (wrap l.sum) (wrap u.sum)) (eg : g ≡ rows_by (wrap l.gap) (wrap u.gap)) where
  pub put-made : set (set (set (set xs
      i (wrap s.sum)) (i + h) (wrap g.sum))
      (i + 2 * h) (wrap s.gap)) (i + 3 * h) (wrap g.gap)
      ≡ put_rows xs i h l u
  put-made =
      rw (
        sum_back pre.low.sum pre.high.sum es,
        gap_back pre.low.sum pre.high.sum es,
        sum_back pre.low.gap pre.high.gap eg,
        gap_back pre.low.gap pre.high.gap eg,
      ) refl
