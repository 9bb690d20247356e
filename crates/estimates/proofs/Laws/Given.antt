-- The numbers of the estimate call, and what it hands out where it is not refused.
--
--   estimate-two         of an accepted plan of two levels refusals 10 and 12 are left
--   Admitted p e t       the plan is accepted and has two levels, the effect has base letters only, the total is within its limit
--   admitted, admits     so it is where the call gives no number, and it gives none where this holds
--   some-power, held     such a plan has two or more readings, and doubles hold the total and their number
--   Estimated p e t      the outcome of the effect e of the plan p with the total t
--   estimated            so it is where the call gives no number
--   exactly-given        and the mean or the difference that the call gives is exactly its quotient
use Rattle.std.specs.Prelude.{◌≡◌, Bool, true, false, cond, ℕ, ◌*◌, ◌-◌, ◌^◌, ◌<◌, ◌≤◌, eqb, ℤ, nat_abs, Float}
use Rattle.std.proofs.Math.Path.{refl, subst}
use Rattle.std.proofs.Common.{sym, ap, ◌∙◌, mul-le-mul, le_of_lt, arith, pow_mono}
use Rattle.std.proofs.Math.Decide.{ℕ_discrete}
use borrow.Author.Tests.{eq-eqb, ne_eqb, eqb-false, le-ltb, ltb-false}
use Rattle.words.specs.Words.{beyond}
use Rattle.plan.specs.declared.types.Plan.{Plan}
use Rattle.plan.specs.Outcome.{Outcome, given, outcome}
use Rattle.plan.specs.Plan.{confounded_in}
use Rattle.plan.specs.Check.{plan_refused}
use Rattle.plan.specs.Limits.{run_limit, is_beyond}
use Rattle.plan.proofs.Laws.Accepted.{accepted, sizes}
use Rattle.plan.proofs.Laws.Answers.{after-plan, passed, plan-passed, refused-with, given-with}
use Rattle.plan.proofs.Laws.Confounded.{not-empty}
use Rattle.plan.proofs.Laws.Limits.{reading-fits}
use Rattle.plan.proofs.Laws.Sizes.{two-levels, some-repeat}
use Rattle.estimates.specs.Quotient.{Exactly, InDouble}
use Rattle.estimates.specs.Estimate.{Value, mean, difference, lost, mean_divisor, difference_divisor, power_of, printed_total, mean_of, difference_of, value_by, estimate_value, total_limit, estimate_refused, ExactlyGiven}
use Rattle.estimates.proofs.Laws.Exact.{exact}
use Rattle.estimates.proofs.Laws.Differences.{printed-held}
use Rattle.estimates.proofs.Laws.Powers.{exponent-few, mean-power, difference-power}

-- ---- the numbers

pub estimate-two : (p : Plan) (e : ℕ) (t : ℤ) → plan_refused p ≡ 0 → (p.levels ≡ 3 → ⊥)
    → estimate_refused p e t ≡ cond (beyond p.k e) 10 (cond (is_beyond (total_limit p) t) 12 0)
unfolding estimate_refused
estimate-two p e t z h = after-plan p _ z ∙ rw (ne_eqb p.levels 3 h) refl

pub record Admitted (p : Plan) (e : ℕ) (t : ℤ) : Type 0 where
  pub plan : plan_refused p ≡ 0
  pub levels : p.levels ≡ 2
  pub letters : beyond p.k e ≡ false
  pub within : nat_abs t ≤ total_limit p

pub admitted : (p : Plan) (e : ℕ) (t : ℤ) → estimate_refused p e t ≡ 0 → Admitted p e t
unfolding estimate_refused is_beyond
admitted p e t n =
    let q = plan-passed p _ n in
    let l9 = passed (eqb p.levels 3) 9 _ (omega arith) q.1 in
    let l10 = passed (beyond p.k e) 10 _ (omega arith) l9.1 in
    let l12 = passed (is_beyond (total_limit p) t) 12 _ (omega arith) l10.1 in
    record {
      plan = q.0;
      levels = two-levels p q.0 (eqb-false p.levels 3 l9.0);
      letters = l10.0;
      within = ltb-false (total_limit p) (nat_abs t) l12.0;
    }

module _ {p : Plan} {e : ℕ} {t : ℤ} (a : Admitted p e t) where
  pub admits : estimate_refused p e t ≡ 0
  unfolding is_beyond
  admits =
      estimate-two p e t a.plan (λ h. omega (arith, h, a.levels))
      ∙ rw (a.letters, le-ltb (total_limit p) (nat_abs t) a.within) refl

  pub some-power : 0 < power_of p
  some-power = omega (arith, (accepted p a.plan).factors.0)

  pub held : InDouble t (power_of p)
  held =
      let k : p.k ≤ 10 = (sizes p a.plan).0 in
      let run : run_limit p ≤ 8 * 2 ^ 31 = mul-le-mul (some-repeat p a.plan).1 (le_of_lt (reading-fits p)) in
      let l : total_limit p ≤ 2 ^ 10 * (8 * 2 ^ 31) = mul-le-mul (pow_mono k) run in
      record { number = omega (arith, a.within, l); power = omega (arith, k, exponent-few p.repeats) }

-- ---- the outcome

pub record Estimated (p : Plan) (e : ℕ) (t : ℤ) : Type 0 where
  -- "Lost is the outcome exactly when the effect is confounded."
  pub lost-when : confounded_in p e ≡ true → estimate_value p e t ≡ lost
  pub lost-only : estimate_value p e t ≡ lost → confounded_in p e ≡ true
  -- "The mean is the total over 2 to the power k", times r: of the empty effect, which is never lost
  pub of-mean : e ≡ 0 → estimate_value p e t ≡ mean (mean_of (power_of p) t)
  pub mean-exact : Exactly t (mean_divisor p) (mean_of (power_of p) t)
  -- "a difference the total over 2 to the power k - 1", times r, "negated when the effect has an odd number of letters": of every other effect
  -- that is not lost
  pub of-difference : confounded_in p e ≡ false → (e ≡ 0 → ⊥) → estimate_value p e t ≡ difference (difference_of (power_of p) e t)
  pub difference-exact : Exactly (printed_total e t) (difference_divisor p) (difference_of (power_of p) e t)

-- an accepted plan does not lose the mean
never-lost : {p : Plan} {e : ℕ} {t : ℤ} → Admitted p e t → e ≡ 0 → (b : Bool) → confounded_in p e ≡ b → b ≡ false
never-lost {p} {e} a z true c = absurd (not-empty (accepted p a.plan) e c z)
never-lost a z false c = refl

abbrev is_lost : Value → Bool
is_lost (mean x) = false
is_lost (difference x) = false
is_lost lost = true

lost-by : (b zero : Bool) (x y : Float) → is_lost (cond b lost (cond zero (mean x) (difference y))) ≡ b
lost-by true zero x y = refl
lost-by false true x y = refl
lost-by false false x y = refl

pub estimated : (p : Plan) (e : ℕ) (t : ℤ) → estimate_refused p e t ≡ 0 → Estimated p e t
unfolding value_by mean_of difference_of
estimated p e t n =
    let a = admitted p e t n in
    let ok = accepted p a.plan in
    let h = held a in
    record {
      lost-when = λ c. rw c refl;
      lost-only = λ c. sym (lost-by (confounded_in p e) (eqb e 0) (mean_of (power_of p) t) (difference_of (power_of p) e t)) ∙ ap is_lost c;
      of-mean = λ z. rw (never-lost a z (confounded_in p e) refl, eq-eqb e 0 z) refl;
      mean-exact = rw (← (mean-power ok)) (exact t (power_of p) h.number (omega (arith, h.power)));
      of-difference = λ c z. rw (c, ne_eqb e 0 z) refl;
      difference-exact =
          let g = printed-held e h in
          rw (← (difference-power ok)) (exact (printed_total e t) (power_of p - 1) g.number (omega (arith, g.power)));
    }

module _ (p : Plan) (e : ℕ) (t : ℤ) where
  exactly : Estimated p e t → (b zero : Bool)
      → ExactlyGiven p e t (given (cond b lost (cond zero (mean (mean_of (power_of p) t)) (difference (difference_of (power_of p) e t)))))
  exactly d true zero = tt
  exactly d false true = d.mean-exact
  exactly d false false = d.difference-exact

  pub exactly-given : {o : Outcome Value} → o ≡ outcome (estimate_refused p e t) (estimate_value p e t) → ExactlyGiven p e t o
  unfolding value_by
  exactly-given d = subst (ExactlyGiven p e t) (sym d) (by (ℕ_discrete (estimate_refused p e t) 0))
    where
      by : Dec (estimate_refused p e t ≡ 0) → ExactlyGiven p e t (outcome (estimate_refused p e t) (estimate_value p e t))
      by (yes z) = rw (given-with (estimate_refused p e t) (estimate_value p e t) z) (exactly (estimated p e t z) (confounded_in p e) (eqb e 0))
      by (no h) = rw (refused-with (estimate_refused p e t) (estimate_value p e t) h) tt
