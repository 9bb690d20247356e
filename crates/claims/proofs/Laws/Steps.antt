-- That the claim `Steps` holds.
--
--   in-steps    the proof
use Rattle.std.specs.Prelude.{◌≡◌, List, ℤ, length, replicate}
use Rattle.std.proofs.Math.Path.{refl, sym, ap}
use Rattle.std.proofs.Common.{◌∙◌, arith}
use Prim.Native.Nat.{ℕ, zero, suc, ◌<◌, ◌≤◌}
use Rattle.algebra.specs.Laws.Tab.{length-tab}
use Rattle.contrasts.specs.Columns.{read, AllWithin, steps_of, totals_of}
use Rattle.contrasts.specs.Factor.{Factor}
use Rattle.contrasts.specs.Limits.{value_limit}
use Rattle.contrasts.proofs.Factors.{of_levels}
use Rattle.contrasts.specs.Totals.{size}
use Rattle.contrasts.specs.Steps.{steps}
use Rattle.contrasts.proofs.Laws.Limits.{Passable, steps-fit}
use Rattle.contrasts.proofs.Laws.Lists.{steps-list, steps_alike, steps-more}
use Rattle.contrasts.proofs.Laws.Within.{within-tab}
use Rattle.plan.specs.declared.types.Plan.{Plan}
use Rattle.plan.specs.Check.{plan_refused}
use Rattle.plan.specs.Outcome.{given}
use Rattle.plan.specs.Plan.{factors_of, runs_of}
use Rattle.plan.proofs.Laws.Accepted.{accepted}
use Rattle.plan.proofs.Laws.Answers.{written_new}
use Rattle.plan.proofs.Laws.Limits.{plan-roomy}
use Rattle.columns.specs.Laws.Admitted.{Columns, admits}
use Rattle.steps.specs.Step.{step_refused, step_column}
use Rattle.claims.specs.AnyOrder.{RunSums}
use Rattle.claims.specs.Steps.{after_steps, Lent, answer, Steps}

-- a step needs a factor, so k is the number after another
fits_each : (F : Factor) (k : ℕ) → 0 < k → {L : ℕ} → Passable (replicate k F) L → (xs : List ℤ) → length xs ≡ size (replicate k F)
    → AllWithin L xs → (t : ℕ) → t ≤ k → AllWithin value_limit (steps_of (size (replicate k F)) (replicate t F) xs)
fits_each F zero some ok xs whole within t h = absurd (omega arith)
fits_each F (suc k) some ok xs whole within t h =
    rw (steps_alike (suc k) t F xs h whole)
    (within-tab _ value_limit _ (steps-fit F k ok (read xs) (λ r _. within r) t h))

module _ (p : Plan) (ok : plan_refused p ≡ 0) (xs : List ℤ) (start : RunSums p xs) (lent : ℕ → List ℤ) (room : Lent p lent) where
  stepped : ℕ → List ℤ
  stepped n = steps_of (runs_of p) (replicate n (of_levels p.levels)) xs

  as_long : (n : ℕ) → n ≤ p.k → length (stepped n) ≡ runs_of p
  unfolding stepped factors_of
  as_long n h =
      rw (steps_alike p.k n (of_levels p.levels) xs h start.whole)
      (length-tab (runs_of p) (steps (runs_of p) (replicate n (of_levels p.levels)) (read xs)))

  admitted : (n : ℕ) → n ≤ p.k → Columns value_limit p (stepped n) (lent n)
  unfolding stepped factors_of
  admitted n h =
      record {
        plan = ok;
        whole = as_long n h;
        same = room n;
        within = fits_each (of_levels p.levels) p.k (accepted p ok).factors.0 (plan-roomy p ok).passable xs start.whole start.within n h;
      }

  so_far : (n : ℕ) → n ≤ p.k → after_steps p lent xs n ≡ stepped n
  unfolding after_steps stepped steps_of step_column
  so_far zero h = refl
  so_far (suc n) h =
      ap (λ ys. step_column p ys (lent n)) (so_far n (omega arith))
      ∙ sym (written_new (step_refused p (stepped n) (lent n)) _ (lent n) (admits (admitted n (omega arith))))
      ∙ sym (steps-more (runs_of p) (of_levels p.levels) n xs)

  answers_at : (n : ℕ) → n < p.k → answer p lent xs n ≡ given tt
  answers_at n h = rw (so_far n (omega arith), admits (admitted n (omega arith))) refl

  ends_so : after_steps p lent xs p.k ≡ totals_of (factors_of p) xs
  unfolding stepped factors_of
  ends_so = so_far p.k (omega arith) ∙ steps-list (factors_of p) xs start.whole

pub in-steps : Steps
in-steps p ok column start lent room =
    record { answers = answers_at p ok column start lent room; ends = ends_so p ok column start lent room }
