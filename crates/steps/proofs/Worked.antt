-- The turns of a step: its sets are read from one column, and their combinations written to another.
--
--   Stepped                  the column after some turns
--   step-begun, step-ended   before the first turn, and after the last
--   mild-from                the values that are read are mild
--   step-two, step-three     a turn
use mathlib.Core.Path.{◌≡◌, refl, ◌∙◌, ap}
use mathlib.Core.List.{List}
use Prim.Native.Nat.{ℕ, ◌+◌, ◌*◌, ◌<◌, ◌≤◌}
use native.Mathlib.Nat.{add_comm}
use native.Mathlib.Omega.{arith}
use lib.IntN.{ℤ, pos, ◌+ℤ◌, ◌-ℤ◌, ◌*ℤ◌}
use lib.ListN.{set}
use Rattle.algebra.specs.Laws.Machine.{wrap}
use Rattle.algebra.specs.Laws.Spread.{Turned}
use Rattle.algebra.proofs.Laws.Spread.{begun, ended}
use Rattle.contrasts.specs.Columns.{read, step_of}
use Rattle.contrasts.proofs.Factors.{two, three, of_levels}
use Rattle.contrasts.specs.Steps.{step}
use Rattle.contrasts.proofs.Laws.Steps.{step_value}
use Rattle.contrasts.proofs.Laws.Small.{Mild, mild-small}
use Rattle.contrasts.proofs.Laws.Sets.{turn-two, turn-three}
use Rattle.steps.specs.Inner.Ready.{Sets}

abbrev pub Stepped : ℕ → ℕ → List ℤ → List ℤ → ℕ → List ℤ → Type 0
Stepped levels n from to i ys = Turned levels n (step (levels * n) (of_levels levels) (read from)) (read to) i ys

module _ {levels n : ℕ} {from to : List ℤ} (pre : Sets levels n from to) where
  pub step-begun : Stepped levels n from to 0 to
  step-begun = begun (pos 0) to pre.same (λ p _. refl)

  module _ {i : ℕ} {ys : List ℤ} (w : Stepped levels n from to i ys) where
    pub step-ended : n ≤ i → ys ≡ step_of (levels * n) (of_levels levels) from
    unfolding step_of
    step-ended k = let e : i ≡ n = omega (arith, w.some) in ended (pos 0) w pre.some e

  pub mild-from : (m : ℕ) → Mild (read from m)
  mild-from m = mild-small (record { small = pre.within m })

module _ {n : ℕ} {from to : List ℤ} (pre : Sets 2 n from to) {i : ℕ} {ys : List ℤ} (w : Stepped 2 n from to i ys) (low : i < n) where
  pub step-two : Stepped 2 n from to (i + 1)
      (set (set ys i (wrap (wrap (read from (2 * i)) +ℤ wrap (read from (2 * i + 1))))) (i + n) (wrap (wrap (read from (2 * i)) -ℤ wrap (read from (2 * i + 1)))))
  unfolding two
  step-two =
      turn-two w low (λ j. read from (i * 2 + j))
      (λ d k. ap (step (2 * n) two (read from)) (add_comm i (d * n)) ∙ step_value two n (read from) d i low)
      (ap (read from) (omega arith)) (ap (read from) (omega arith)) (mild-from pre (2 * i)) (mild-from pre (2 * i + 1))

module _ {n : ℕ} {from to : List ℤ} (pre : Sets 3 n from to) {i : ℕ} {ys : List ℤ} (w : Stepped 3 n from to i ys) (low : i < n) where
  pub step-three : Stepped 3 n from to (i + 1)
      (set (set (set ys i (wrap (wrap (wrap (read from (3 * i)) +ℤ wrap (read from (3 * i + 1))) +ℤ wrap (read from (3 * i + 2)))))
      (i + n) (wrap (wrap (read from (3 * i)) -ℤ wrap (read from (3 * i + 2)))))
      (i + 2 * n) (wrap (wrap (wrap (read from (3 * i)) -ℤ wrap (pos 2 *ℤ wrap (read from (3 * i + 1)))) +ℤ wrap (read from (3 * i + 2)))))
  unfolding three
  step-three =
      turn-three w low (λ j. read from (i * 3 + j))
      (λ d k. ap (step (3 * n) three (read from)) (add_comm i (d * n)) ∙ step_value three n (read from) d i low)
      (ap (read from) (omega arith)) (ap (read from) (omega arith)) (ap (read from) (omega arith))
      (mild-from pre (3 * i)) (mild-from pre (3 * i + 1)) (mild-from pre (3 * i + 2))
