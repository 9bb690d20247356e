-- The turns of a stretch of three-level sums.
--
--   Stretched h xs i ys             ys is the stretch xs after i turns
--   stretch-begun, stretch-ended    before the first turn of a stretch, and after the last
--   Triple a b c                    the three values of a turn as code holds them, and the sums that it forms of them
--   triple                          those of the next turn
--   stretch-three                   a turn
use mathlib.Core.Path.{◌≡◌, refl, sym, ◌∙◌, ap}
use mathlib.Core.List.{List}
use Prim.Native.Nat.{ℕ, ◌+◌, ◌*◌, ◌<◌, ◌≤◌}
use native.Mathlib.Omega.{arith}
use lib.Dec.{lit<, lit≤}
use lib.IntN.{ℤ, pos, ◌+ℤ◌, ◌-ℤ◌, ◌*ℤ◌}
use lib.ListN.{set}
use Rattle.algebra.specs.Laws.Machine.{wrap}
use Rattle.algebra.specs.Laws.Spread.{Turned}
use Rattle.algebra.proofs.Laws.Spread.{begun, ended, unread, opened, put, closed}
use Rattle.contrasts.specs.Columns.{read}
use Rattle.contrasts.proofs.Factors.{three}
use Rattle.contrasts.proofs.Laws.Small.{Mild}
use Rattle.contrasts.proofs.Laws.Undo.{undo_sum, sums_over, undo-stretch, first-sum, middle-sum, third-sum}
use Rattle.passes.specs.Ready.{Stretch}
use Rattle.recovery.proofs.Held.{Held, one, plus, minus, times}

abbrev pub Stretched : ℕ → List ℤ → ℕ → List ℤ → Type 0
Stretched h xs i ys = Turned 3 h (undo_sum h three (read xs)) (read xs) i ys

pub record Triple (a b c : ℤ) : Type 0 where
  pub first : Held 1 a (wrap a)
  pub middle : Held 1 b (wrap b)
  pub third : Held 1 c (wrap c)

module _ {a b c : ℤ} (t : Triple a b c) where
  pub twice-first : Held 2 (pos 2 *ℤ a) (wrap (pos 2 *ℤ wrap a))
  twice-first = times 2 t.first (lit≤ tt)

  pub thrice-middle : Held 3 (pos 3 *ℤ b) (wrap (pos 3 *ℤ wrap b))
  thrice-middle = times 3 t.middle (lit≤ tt)

  pub twice-third : Held 2 (pos 2 *ℤ c) (wrap (pos 2 *ℤ wrap c))
  twice-third = times 2 t.third (lit≤ tt)

  pub with-middle : Held 5 (pos 2 *ℤ a +ℤ pos 3 *ℤ b) (wrap (wrap (pos 2 *ℤ wrap a) +ℤ wrap (pos 3 *ℤ wrap b)))
  with-middle = plus twice-first thrice-middle (lit≤ tt)

  pub less-middle : Held 5 (pos 2 *ℤ a -ℤ pos 3 *ℤ b) (wrap (wrap (pos 2 *ℤ wrap a) -ℤ wrap (pos 3 *ℤ wrap b)))
  less-middle = minus twice-first thrice-middle (lit≤ tt)

  pub low : Held 6 (pos 2 *ℤ a +ℤ pos 3 *ℤ b +ℤ c) (wrap (wrap (wrap (pos 2 *ℤ wrap a) +ℤ wrap (pos 3 *ℤ wrap b)) +ℤ wrap c))
  low = plus with-middle t.third (lit≤ tt)

  pub centre : Held 4 (pos 2 *ℤ a -ℤ pos 2 *ℤ c) (wrap (wrap (pos 2 *ℤ wrap a) -ℤ wrap (pos 2 *ℤ wrap c)))
  centre = minus twice-first twice-third (lit≤ tt)

  pub high : Held 6 (pos 2 *ℤ a -ℤ pos 3 *ℤ b +ℤ c) (wrap (wrap (wrap (pos 2 *ℤ wrap a) -ℤ wrap (pos 3 *ℤ wrap b)) +ℤ wrap c))
  high = plus less-middle t.third (lit≤ tt)

module _ {h : ℕ} {xs : List ℤ} (pre : Stretch 3 h xs) where
  pub stretch-begun : Stretched h xs 0 xs
  stretch-begun = begun (pos 0) xs pre.whole (λ p _. refl)

  module _ {i : ℕ} {ys : List ℤ} (w : Stretched h xs i ys) where
    pub stretch-ended : h ≤ i → ys ≡ sums_over h three xs
    unfolding sums_over
    stretch-ended k =
        let e : i ≡ h = omega (arith, w.some) in
        ended (pos 0) w pre.some e ∙ rw pre.whole refl

    module _ (inside : i < h) where
      still : (d : ℕ) → d < 3 → (n : ℕ) → i + d * h ≡ n → read xs (i + d * h) ≡ read ys n
      still d k n e = sym (unread (pos 0) w inside d k) ∙ ap (read ys) e

      mild-at : (d : ℕ) → d < 3 → (n : ℕ) → i + d * h ≡ n → Mild (read ys n)
      mild-at d k n e = record { mild = rw (← (still d k n e)) (pre.within (i + d * h)) }

      pub triple : Triple (read ys i) (read ys (i + h)) (read ys (i + 2 * h))
      triple = record {
        first = one (mild-at 0 (lit< tt) i (omega arith));
        middle = one (mild-at 1 (lit< tt) (i + h) (omega arith));
        third = one (mild-at 2 (lit< tt) (i + 2 * h) refl);
      }

      abbrev a : ℤ
      a = read ys i

      abbrev b : ℤ
      b = read ys (i + h)

      abbrev c : ℤ
      c = read ys (i + 2 * h)

      pub stretch-three : Stretched h xs (i + 1)
          (set (set (set ys i (wrap (wrap (wrap (pos 2 *ℤ wrap a) +ℤ wrap (pos 3 *ℤ wrap b)) +ℤ wrap c)))
          (i + h) (wrap (wrap (pos 2 *ℤ wrap a) -ℤ wrap (pos 2 *ℤ wrap c))))
          (i + 2 * h) (wrap (wrap (wrap (pos 2 *ℤ wrap a) -ℤ wrap (pos 3 *ℤ wrap b)) +ℤ wrap c)))
      unfolding three
      stretch-three =
          let t = closed (pos 0) inside
          (put (pos 0) inside 2 (lit< tt) (put (pos 0) inside 1 (lit< tt) (put (pos 0) inside 0 (lit< tt) (opened (pos 0) w) _ one-is) _ two_is) _ three-is) in
          rw (place0, place1) at t
        where
          place0 : i + 0 * h ≡ i
          place0 = omega arith

          place1 : i + 1 * h ≡ i + h
          place1 = omega arith

          y0 : read xs (i + 0 * h) ≡ a
          y0 = still 0 (lit< tt) i (omega arith)

          y1 : read xs (i + 1 * h) ≡ b
          y1 = still 1 (lit< tt) (i + h) (omega arith)

          y2 : read xs (i + 2 * h) ≡ c
          y2 = still 2 (lit< tt) (i + 2 * h) refl

          one-is : wrap (wrap (wrap (pos 2 *ℤ wrap a) +ℤ wrap (pos 3 *ℤ wrap b)) +ℤ wrap c) ≡ undo_sum h three (read xs) (i + 0 * h)
          one-is = (low triple).so ∙ sym (undo-stretch h three (read xs) 0 i (lit< tt) inside ∙ first-sum (λ j. read xs (i + j * h)) y0 y1 y2)

          two_is : wrap (wrap (pos 2 *ℤ wrap a) -ℤ wrap (pos 2 *ℤ wrap c)) ≡ undo_sum h three (read xs) (i + 1 * h)
          two_is = (centre triple).so ∙ sym (undo-stretch h three (read xs) 1 i (lit< tt) inside ∙ middle-sum (λ j. read xs (i + j * h)) y0 y1 y2)

          three-is : wrap (wrap (wrap (pos 2 *ℤ wrap a) -ℤ wrap (pos 3 *ℤ wrap b)) +ℤ wrap c) ≡ undo_sum h three (read xs) (i + 2 * h)
          three-is = (high triple).so ∙ sym (undo-stretch h three (read xs) 2 i (lit< tt) inside ∙ third-sum (λ j. read xs (i + j * h)) y0 y1 y2)
