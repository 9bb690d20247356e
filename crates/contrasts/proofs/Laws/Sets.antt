-- A turn of a loop that works a set of values by the rows of a factor: its sums fit an i64, and what it writes is what the rows say. The
-- loop of a stretch and that of a step are both of this kind. An i64 that the code holds is `wrap z`, the number as bits and read again;
-- the laws speak of the sums as the code forms them.
--
--   sum_fits, less-fits    at two levels: the sum, and first minus second
--   turn-two               the turn
--   all-fits, scaled_fits, without-fits, third-fits
--                          at three levels: the sum; the middle so many times, first minus that, and with the third
--   turn-three             the turn
use Rattle.std.specs.Prelude.{◌≡◌, List, ℕ, ◌+◌, ◌*◌, ◌^◌, ◌<◌, ◌≤◌, ℤ, pos, ◌+ℤ◌, ◌-ℤ◌, ◌*ℤ◌, nat_abs, set}
use Rattle.std.proofs.Common.{sym, ◌∙◌, mul-le-mul, arith, lit<, lit≤, SFits}
use Rattle.std.specs.Int.{w64}
use Rattle.algebra.specs.Laws.Size.{nat_abs-+ℤ, nat_abs-sub, nat_abs-*ℤ}
use Rattle.algebra.specs.Laws.Machine.{fits, wrap}
use Rattle.algebra.proofs.Laws.Machine.{back}
use Rattle.algebra.specs.Laws.Spread.{Turned}
use Rattle.algebra.proofs.Laws.Spread.{opened, put, closed}
use Rattle.algebra.specs.Sum.{Σ}
use Rattle.contrasts.proofs.Factors.{two, three}
use Rattle.contrasts.proofs.Laws.TwoLevels as twice
use Rattle.contrasts.proofs.Laws.ThreeLevels as thrice
use Rattle.contrasts.proofs.Laws.Small.{mild_limit, Mild, room, held}

-- ---- two levels

module _ {a b : ℤ} (sa : Mild a) (sb : Mild b) where
  pub sum-size : nat_abs (a +ℤ b) < 2 ^ 63
  sum-size = omega (arith, room, sa.mild, sb.mild, nat_abs-+ℤ a b)

  pub less-size : nat_abs (a -ℤ b) < 2 ^ 63
  less-size = omega (arith, room, sa.mild, sb.mild, nat_abs-sub a b)

  pub sum_fits : SFits w64 (wrap a +ℤ wrap b)
  sum_fits = rw (held sa, held sb) (fits (a +ℤ b) sum-size)

  pub less-fits : SFits w64 (wrap a -ℤ wrap b)
  less-fits = rw (held sa, held sb) (fits (a -ℤ b) less-size)

  pub sum_is : wrap (wrap a +ℤ wrap b) ≡ a +ℤ b
  sum_is = rw (held sa, held sb) (back (a +ℤ b) sum-size)

  pub less-is : wrap (wrap a -ℤ wrap b) ≡ a -ℤ b
  less-is = rw (held sa, held sb) (back (a -ℤ b) less-size)

module _ {h i : ℕ} {f g : ℕ → ℤ} {ys : List ℤ} (w : Turned 2 h f g i ys) (low : i < h)
    (y : ℕ → ℤ) (row : (d : ℕ) → d < 2 → f (i + d * h) ≡ Σ 2 (λ j. two.coef d j *ℤ y j)) where
  pub turn-two : {a b : ℤ} → y 0 ≡ a → y 1 ≡ b → Mild a → Mild b
      → Turned 2 h f g (i + 1) (set (set ys i (wrap (wrap a +ℤ wrap b))) (i + h) (wrap (wrap a -ℤ wrap b)))
  turn-two {a} {b} first second sa sb =
      let t = closed (pos 0) low (put (pos 0) low 1 (lit< tt) (put (pos 0) low 0 (lit< tt) (opened (pos 0) w) (wrap (wrap a +ℤ wrap b)) sums) (wrap (wrap a -ℤ wrap b)) differences) in
      rw (place0, place1) at t
    where
      place0 : i + 0 * h ≡ i
      place0 = omega arith

      place1 : i + 1 * h ≡ i + h
      place1 = omega arith

      sums : wrap (wrap a +ℤ wrap b) ≡ f (i + 0 * h)
      sums = sum_is sa sb ∙ sym (row 0 (lit< tt) ∙ twice.sum y first second)

      differences : wrap (wrap a -ℤ wrap b) ≡ f (i + 1 * h)
      differences = less-is sa sb ∙ sym (row 1 (lit< tt) ∙ twice.difference y first second)

-- ---- three levels

-- of a middle that is counted up to twice, "twice middle" being the case that the turn has
module _ (m : ℕ) (le : m ≤ 2) where
  scaled-size : {b : ℤ} → Mild b → nat_abs (pos m *ℤ b) ≤ 2 * mild_limit
  scaled-size {b} sb = rw (nat_abs-*ℤ (pos m) b) (mul-le-mul le sb.mild)

  pub scaled_fits : {b : ℤ} → Mild b → SFits w64 (pos m *ℤ wrap b)
  scaled_fits {b} sb = rw (held sb) (fits (pos m *ℤ b) (omega (arith, room, scaled-size sb)))

  scaled-is : {b : ℤ} → Mild b → wrap (pos m *ℤ wrap b) ≡ pos m *ℤ b
  scaled-is {b} sb = rw (held sb) (back (pos m *ℤ b) (omega (arith, room, scaled-size sb)))

  module _ {a b : ℤ} (sa : Mild a) (sb : Mild b) where
    without-size : nat_abs (a -ℤ pos m *ℤ b) < 2 ^ 63
    without-size = omega (arith, room, sa.mild, scaled-size sb, nat_abs-sub a (pos m *ℤ b))

    pub without-fits : SFits w64 (wrap a -ℤ wrap (pos m *ℤ wrap b))
    without-fits = rw (held sa, scaled-is sb) (fits (a -ℤ pos m *ℤ b) without-size)

    without_is : wrap (wrap a -ℤ wrap (pos m *ℤ wrap b)) ≡ a -ℤ pos m *ℤ b
    without_is = rw (held sa, scaled-is sb) (back (a -ℤ pos m *ℤ b) without-size)

  module _ {a b c : ℤ} (sa : Mild a) (sb : Mild b) (sc : Mild c) where
    pub third-size : nat_abs (a -ℤ pos m *ℤ b +ℤ c) < 2 ^ 63
    third-size =
        omega (arith, room, sa.mild, scaled-size sb, sc.mild, nat_abs-sub a (pos m *ℤ b), nat_abs-+ℤ (a -ℤ pos m *ℤ b) c)

    pub third-fits : SFits w64 (wrap (wrap a -ℤ wrap (pos m *ℤ wrap b)) +ℤ wrap c)
    third-fits = rw (without_is sa sb, held sc) (fits (a -ℤ pos m *ℤ b +ℤ c) third-size)

    pub third-is : wrap (wrap (wrap a -ℤ wrap (pos m *ℤ wrap b)) +ℤ wrap c) ≡ a -ℤ pos m *ℤ b +ℤ c
    third-is = rw (without_is sa sb, held sc) (back (a -ℤ pos m *ℤ b +ℤ c) third-size)

module _ {a b c : ℤ} (sa : Mild a) (sb : Mild b) (sc : Mild c) where
  pub all-size : nat_abs (a +ℤ b +ℤ c) < 2 ^ 63
  all-size = omega (arith, room, sa.mild, sb.mild, sc.mild, nat_abs-+ℤ a b, nat_abs-+ℤ (a +ℤ b) c)

  pub all-fits : SFits w64 (wrap (wrap a +ℤ wrap b) +ℤ wrap c)
  all-fits = rw (sum_is sa sb, held sc) (fits (a +ℤ b +ℤ c) all-size)

  pub all-is : wrap (wrap (wrap a +ℤ wrap b) +ℤ wrap c) ≡ a +ℤ b +ℤ c
  all-is = rw (sum_is sa sb, held sc) (back (a +ℤ b +ℤ c) all-size)

module _ {h i : ℕ} {f g : ℕ → ℤ} {ys : List ℤ} (w : Turned 3 h f g i ys) (low : i < h)
    (y : ℕ → ℤ) (row : (d : ℕ) → d < 3 → f (i + d * h) ≡ Σ 3 (λ j. three.coef d j *ℤ y j)) where
  pub turn-three : {a b c : ℤ} → y 0 ≡ a → y 1 ≡ b → y 2 ≡ c → Mild a → Mild b → Mild c
      → Turned 3 h f g (i + 1)
      (set (set (set ys i (wrap (wrap (wrap a +ℤ wrap b) +ℤ wrap c))) (i + h) (wrap (wrap a -ℤ wrap c)))
      (i + 2 * h) (wrap (wrap (wrap a -ℤ wrap (pos 2 *ℤ wrap b)) +ℤ wrap c)))
  turn-three {a} {b} {c} first middle third sa sb sc =
      let t = closed (pos 0) low
      (put (pos 0) low 2 (lit< tt)
      (put (pos 0) low 1 (lit< tt)
      (put (pos 0) low 0 (lit< tt) (opened (pos 0) w) (wrap (wrap (wrap a +ℤ wrap b) +ℤ wrap c)) sums)
      (wrap (wrap a -ℤ wrap c)) linear)
      (wrap (wrap (wrap a -ℤ wrap (pos 2 *ℤ wrap b)) +ℤ wrap c)) quadratic) in
      rw (place0, place1) at t
    where
      place0 : i + 0 * h ≡ i
      place0 = omega arith

      place1 : i + 1 * h ≡ i + h
      place1 = omega arith

      sums : wrap (wrap (wrap a +ℤ wrap b) +ℤ wrap c) ≡ f (i + 0 * h)
      sums = all-is sa sb sc ∙ sym (row 0 (lit< tt) ∙ thrice.sum y first middle third)

      linear : wrap (wrap a -ℤ wrap c) ≡ f (i + 1 * h)
      linear = less-is sa sc ∙ sym (row 1 (lit< tt) ∙ thrice.linear y first middle third)

      quadratic : wrap (wrap (wrap a -ℤ wrap (pos 2 *ℤ wrap b)) +ℤ wrap c) ≡ f (i + 2 * h)
      quadratic = third-is 2 (lit≤ tt) sa sb sc ∙ sym (row 2 (lit< tt) ∙ thrice.quadratic y first middle third)
