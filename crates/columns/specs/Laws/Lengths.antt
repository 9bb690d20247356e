-- Refusal 11: the lengths of columns beside the numbers of runs and readings.
--
--   wrong, right            what the code's comparison with `runs` says of an accepted plan
--   by_runs, by-readings    the number by the lengths, where the code compares with `runs` and with `reading_count`
--   by_lengths              a number by the lengths alone is that of the call
--   by-rest                 where there is none, its other refusals decide
--   by-none                 and the plan is accepted, and no length is wrong
use Rattle.std.specs.Prelude.{◌≡◌, Bool, not, ◌||◌, List, ◌∷◌, ℕ, eqb}
use Rattle.std.proofs.Math.Path.{refl, sym}
use Rattle.std.proofs.Common.{◌∙◌, arith, eq-eqb, ne_eqb}
use Rattle.std.proofs.Math.Bool.{true, false, cond}
use Rattle.std.proofs.Math.Decide.{ℕ_discrete}
use Rattle.plan.specs.declared.types.Plan.{Plan}
use Rattle.plan.specs.Check.{plan_refused, with_plan, run_count, reading_count}
use Rattle.plan.specs.Outcome.{Refusal, refusal, lowest}
use Rattle.plan.specs.Plan.{runs_of}
use Rattle.plan.proofs.Laws.Answers.{passed, plan-passed, plan-first, after-plan}
use Rattle.plan.proofs.Laws.Sizes.{run-count, reading-count}
use Rattle.columns.specs.Refusals.{wrong_length, wrong_readings, lengths_refused}

module _ (p : Plan) (ok : plan_refused p ≡ 0) {n : ℕ} (e : n ≡ run_count p) (m : ℕ) where
  pub wrong : (m ≡ n → ⊥) → wrong_length p m ≡ true
  unfolding wrong_length
  wrong h = rw (ne_eqb m (runs_of p) (λ d. h (d ∙ sym (e ∙ run-count p ok)))) refl

  pub right : m ≡ n → wrong_length p m ≡ false
  unfolding wrong_length
  right h = rw (eq-eqb m (runs_of p) (h ∙ e ∙ run-count p ok)) refl

-- two tests of lengths that agree of an accepted plan give one number
same : (p : Plan) (a b : Bool) → (plan_refused p ≡ 0 → a ≡ b) → lengths_refused p a ≡ lengths_refused p b
unfolding lengths_refused
same p a b h = by (ℕ_discrete (plan_refused p) 0)
  where
    by : Dec (plan_refused p ≡ 0) → lengths_refused p a ≡ lengths_refused p b
    by (yes ok) = rw (h ok) refl
    by (no d) = sym (plan-first p _ refl d) ∙ plan-first p _ refl d

module _ (p : Plan) (read written : ℕ) {n r : ℕ} (number : r ≡ lengths_refused p (not (eqb read n) || wrong_length p written)) where
  pub by_runs : n ≡ run_count p → r ≡ lengths_refused p (wrong_length p read || wrong_length p written)
  unfolding wrong_length
  by_runs e = number ∙ same p _ _ (λ ok. rw (e, run-count p ok) refl)

  pub by-readings : n ≡ reading_count p → r ≡ lengths_refused p (wrong_readings p read || wrong_length p written)
  unfolding wrong_readings
  by-readings e = number ∙ same p _ _ (λ ok. rw (e, reading-count p ok) refl)

module _ (p : Plan) (wrong : Bool) (rest : List Refusal) where
  pub by_lengths : {n : ℕ} → n ≡ lengths_refused p wrong → (n ≡ 0 → ⊥) → n ≡ with_plan p (refusal 11 wrong ∷ rest)
  unfolding lengths_refused
  by_lengths {n} e h = by (ℕ_discrete (plan_refused p) 0)
    where
      refusal-11 : (b : Bool) (m : ℕ) → n ≡ cond b 11 0 → n ≡ cond b 11 m
      refusal-11 true m d = d
      refusal-11 false m d = absurd (h d)

      by : Dec (plan_refused p ≡ 0) → n ≡ with_plan p (refusal 11 wrong ∷ rest)
      by (yes d) = refusal-11 wrong (lowest rest) (e ∙ after-plan p _ d) ∙ sym (after-plan p _ d)
      by (no d) = e ∙ sym (plan-first p _ refl d) ∙ plan-first p _ refl d

  pub by-rest : lengths_refused p wrong ≡ 0 → with_plan p (refusal 11 wrong ∷ rest) ≡ lowest rest
  unfolding lengths_refused
  by-rest e =
      let q = plan-passed p _ e in
      let l11 = passed wrong 11 _ (omega arith) q.1 in
      after-plan p _ q.0 ∙ rw l11.0 refl

-- no number by the lengths
pub by-none : (p : Plan) (wrong : Bool) → lengths_refused p wrong ≡ 0 → (plan_refused p ≡ 0) × (wrong ≡ false)
unfolding lengths_refused
by-none p wrong e =
    let q = plan-passed p _ e in
    (q.0, (passed wrong 11 _ (omega arith) q.1).0)
