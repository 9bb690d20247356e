-- The rows of three values, as code forms and holds them.
--
--   same_rows                          rows that agree in each value are the same
--   rows-held                          the rows of values that code holds
--   sum_back, gap_back, curve-back     what code reads of such rows
--   rows-mild                          the rows of small values are mild
--   put-made                           the nine values that code writes
use mathlib.Core.Path.{◌≡◌, refl, ◌∙◌}
use mathlib.Core.List.{List}
use Prim.Native.Nat.{ℕ, ◌+◌, ◌*◌}
use lib.Dec.{lit≤}
use lib.IntN.{ℤ, pos, ◌+ℤ◌, ◌-ℤ◌, ◌*ℤ◌}
use lib.ListN.{set}
use Rattle.algebra.specs.Laws.Machine.{wrap}
use Rattle.algebra.proofs.Laws.Machine.{back}
use Rattle.contrasts.proofs.Laws.Sets.{less-size, all-size, third-size}
use Rattle.contrasts.proofs.Laws.Small.{Small, Mild, less-mild, all-mild, third-mild, held}
use Rattle.levels.specs.declared.triples.Rows.{Rows}
use Rattle.levels.specs.Inner.Triples.{rows_by, put_rows, MildRows, NinePlaces}

pub same_rows : {a b c d e f : ℤ} → a ≡ d → b ≡ e → c ≡ f
    → ◌≡◌ {A = Rows} (record { sum = a; gap = b; curve = c }) (record { sum = d; gap = e; curve = f })
same_rows p q r = rw (p, q, r) refl

-- ---- values that code holds

module _ {a b c : ℤ} (sa : Mild a) (sb : Mild b) (sc : Mild c) where
  pub rows-held : rows_by (wrap a) (wrap b) (wrap c) ≡ rows_by a b c
  rows-held = rw (held sa, held sb, held sc) refl

  module _ {r : Rows} (e : r ≡ rows_by (wrap a) (wrap b) (wrap c)) where
    pub sum_back : wrap r.sum ≡ a +ℤ b +ℤ c
    sum_back = rw (e ∙ rows-held) (back (a +ℤ b +ℤ c) (all-size sa sb sc))

    pub gap_back : wrap r.gap ≡ a -ℤ c
    gap_back = rw (e ∙ rows-held) (back (a -ℤ c) (less-size sa sc))

    pub curve-back : wrap r.curve ≡ a -ℤ pos 2 *ℤ b +ℤ c
    curve-back = rw (e ∙ rows-held) (back (a -ℤ pos 2 *ℤ b +ℤ c) (third-size 2 (lit≤ tt) sa sb sc))

-- ---- one pass, and the next

pub rows-mild : {a b c : ℤ} → Small a → Small b → Small c → MildRows (rows_by a b c)
rows-mild sa sb sc = record { sum = all-mild sa sb sc; gap = less-mild sa sc; curve = third-mild sa sb sc }

module _ {xs : List ℤ} {i h : ℕ} {l m u : Rows} (pre : NinePlaces xs i h l m u) {s g c : Rows}
    (es : s ≡ rows_by (wrap l.sum) (wrap m.sum) (wrap u.sum))
    (eg : g ≡ rows_by (wrap l.gap) (wrap m.gap) (wrap u.gap))
    (ec : c ≡ rows_by (wrap l.curve) (wrap m.curve) (wrap u.curve)) where
  pub put-made : set (set (set (set (set (set (set (set (set xs
      i (wrap s.sum)) (i + h) (wrap g.sum)) (i + 2 * h) (wrap c.sum))
      (i + 3 * h) (wrap s.gap)) (i + 4 * h) (wrap g.gap)) (i + 5 * h) (wrap c.gap))
      (i + 6 * h) (wrap s.curve)) (i + 7 * h) (wrap g.curve)) (i + 8 * h) (wrap c.curve)
      ≡ put_rows xs i h l m u
  put-made =
      rw (
        sum_back l0 m0 u0 es,
        gap_back l0 m0 u0 es,
        curve-back l0 m0 u0 es,
        sum_back l1 m1 u1 eg,
        gap_back l1 m1 u1 eg,
        curve-back l1 m1 u1 eg,
        sum_back l2 m2 u2 ec,
        gap_back l2 m2 u2 ec,
        curve-back l2 m2 u2 ec,
      ) refl
    where
      l0 : Mild l.sum
      l0 = pre.low.sum

      l1 : Mild l.gap
      l1 = pre.low.gap

      l2 : Mild l.curve
      l2 = pre.low.curve

      m0 : Mild m.sum
      m0 = pre.middle.sum

      m1 : Mild m.gap
      m1 = pre.middle.gap

      m2 : Mild m.curve
      m2 = pre.middle.curve

      u0 : Mild u.sum
      u0 = pre.high.sum

      u1 : Mild u.gap
      u1 = pre.high.gap

      u2 : Mild u.curve
      u2 = pre.high.curve
