-- The turns of a stretch of a pass.
--
--   Stretched levels h xs i ys      ys is the stretch xs after i turns
--   stretch-begun, stretch-ended    before the first turn of a stretch, and after the last
--   pair, triple                    the values of the next turn are mild, at two levels and at three
--   stretch-two, stretch-three      a turn
use mathlib.Core.Path.{◌≡◌, refl, sym, ◌∙◌, ap}
use mathlib.Core.List.{List}
use Prim.Native.Nat.{ℕ, ◌+◌, ◌*◌, ◌<◌, ◌≤◌}
use native.Mathlib.Omega.{arith}
use lib.Dec.{lit<}
use lib.IntN.{ℤ, pos, ◌+ℤ◌, ◌-ℤ◌, ◌*ℤ◌}
use lib.ListN.{set}
use Rattle.algebra.specs.Laws.Machine.{wrap}
use Rattle.algebra.specs.Laws.Spread.{Turned}
use Rattle.algebra.proofs.Laws.Spread.{begun, ended, unread}
use Rattle.contrasts.specs.Columns.{read}
use Rattle.contrasts.proofs.Factors.{two, three, of_levels}
use Rattle.contrasts.specs.Passes.{pass_at}
use Rattle.contrasts.proofs.Laws.Stretches.{pass_over, stretch-value}
use Rattle.contrasts.proofs.Laws.Small.{Mild}
use Rattle.contrasts.proofs.Laws.Sets.{turn-two, turn-three}
use Rattle.passes.specs.Ready.{Stretch}

abbrev pub Stretched : ℕ → ℕ → List ℤ → ℕ → List ℤ → Type 0
Stretched levels h xs i ys = Turned levels h (pass_at h (of_levels levels) (read xs)) (read xs) i ys

module _ {levels h : ℕ} {xs : List ℤ} (pre : Stretch levels h xs) where
  pub stretch-begun : Stretched levels h xs 0 xs
  stretch-begun = begun (pos 0) xs pre.whole (λ p _. refl)

  module _ {i : ℕ} {ys : List ℤ} (w : Stretched levels h xs i ys) where
    pub stretch-ended : h ≤ i → ys ≡ pass_over h (of_levels levels) xs
    unfolding pass_over
    stretch-ended k =
        let e : i ≡ h = omega (arith, w.some) in
        ended (pos 0) w pre.some e ∙ rw pre.whole refl

    module _ (low : i < h) where
      still : (d : ℕ) → d < levels → (n : ℕ) → i + d * h ≡ n → read xs (i + d * h) ≡ read ys n
      still d k n e = sym (unread (pos 0) w low d k) ∙ ap (read ys) e

      mild-at : (d : ℕ) → d < levels → (n : ℕ) → i + d * h ≡ n → Mild (read ys n)
      mild-at d k n e = record { mild = rw (← (still d k n e)) (pre.within (i + d * h)) }

module _ {h : ℕ} {xs : List ℤ} (pre : Stretch 2 h xs) {i : ℕ} {ys : List ℤ} (w : Stretched 2 h xs i ys) (low : i < h) where
  pub pair : Mild (read ys i) × Mild (read ys (i + h))
  pair = (mild-at pre w low 0 (lit< tt) i (omega arith), mild-at pre w low 1 (lit< tt) (i + h) (omega arith))

  pub stretch-two : Stretched 2 h xs (i + 1)
      (set (set ys i (wrap (wrap (read ys i) +ℤ wrap (read ys (i + h))))) (i + h) (wrap (wrap (read ys i) -ℤ wrap (read ys (i + h)))))
  unfolding two
  stretch-two =
      turn-two w low (λ j. read xs (i + j * h)) (λ d k. stretch-value h two (read xs) d i k low)
      (still pre w low 0 (lit< tt) i (omega arith)) (still pre w low 1 (lit< tt) (i + h) (omega arith)) pair.0 pair.1

module _ {h : ℕ} {xs : List ℤ} (pre : Stretch 3 h xs) {i : ℕ} {ys : List ℤ} (w : Stretched 3 h xs i ys) (low : i < h) where
  pub triple : Mild (read ys i) × Mild (read ys (i + h)) × Mild (read ys (i + 2 * h))
  triple = (
    mild-at pre w low 0 (lit< tt) i (omega arith),
    mild-at pre w low 1 (lit< tt) (i + h) (omega arith),
    mild-at pre w low 2 (lit< tt) (i + 2 * h) refl,
  )

  pub stretch-three : Stretched 3 h xs (i + 1)
      (set (set (set ys i (wrap (wrap (wrap (read ys i) +ℤ wrap (read ys (i + h))) +ℤ wrap (read ys (i + 2 * h)))))
      (i + h) (wrap (wrap (read ys i) -ℤ wrap (read ys (i + 2 * h)))))
      (i + 2 * h) (wrap (wrap (wrap (read ys i) -ℤ wrap (pos 2 *ℤ wrap (read ys (i + h)))) +ℤ wrap (read ys (i + 2 * h)))))
  unfolding three
  stretch-three =
      turn-three w low (λ j. read xs (i + j * h)) (λ d k. stretch-value h three (read xs) d i k low)
      (still pre w low 0 (lit< tt) i (omega arith)) (still pre w low 1 (lit< tt) (i + h) (omega arith)) (still pre w low 2 (lit< tt) (i + 2 * h) refl)
      triple.0 triple.1 triple.2
