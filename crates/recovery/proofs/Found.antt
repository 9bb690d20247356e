-- What the parts of the call are lent, and what they find.
--
--   denominator-few          the denominator of a plan is at most 46,656
--   summable, divisible      the totals can be summed, and the sums divided
--   missing, found           a quotient is missed where there are no readings; the quotients are the readings back
--   lengths, few             an accepted plan and columns of N places; at most 1,024
--   judgeable                the column that is lent besides
--   narrow                   where there are readings they fit the column for them
--   stopped_by, done         the answer of the call in both cases
use mathlib.Core.Path.{◌≡◌, refl, sym, ◌∙◌}
use mathlib.Core.Logic.{◌⊎◌, inl, inr}
use mathlib.Core.Bool.{Bool, false, cond}
use mathlib.Core.List.{List}
use Prim.Native.Nat.{ℕ, ◌*◌, ◌^◌, ◌<◌, ◌≤◌}
use native.Mathlib.Nat.{mul-le-mul_right, pow-le-pow_right, le_trans}
use native.Mathlib.Omega.{arith}
use lib.Dec.{lit<, lit≤}
use lib.IntN.{ℤ}
use lib.ListN.{length}
use Rattle.algebra.specs.Tab.{tab}
use Rattle.contrasts.specs.Columns.{read}
use Rattle.contrasts.proofs.Factors.{two, three, of_levels}
use Rattle.contrasts.specs.Limits.{value_limit, most_two, most_three}
use Rattle.contrasts.specs.Recovery.{back_sum, readings_back, no_readings}
use Rattle.contrasts.specs.Totals.{denominator}
use Rattle.contrasts.proofs.Laws.Divisors.{denominator-pos}
use Rattle.contrasts.proofs.Laws.Recovery.{any_missed, quotients, quotients-back, judged, back_found}
use Rattle.contrasts.proofs.Laws.Replicated.{denominator-alike}
use Rattle.contrasts.proofs.Laws.Small.{mild_limit}
use Rattle.contrasts.proofs.Laws.Undo.{sums_from, sums-back, all-within, gentle-alike}
use Rattle.plan.specs.declared.types.Plan.{Plan}
use Rattle.plan.specs.Check.{plan_refused}
use Rattle.plan.specs.Limits.{run_limit}
use Rattle.plan.specs.Outcome.{given, refused}
use Rattle.plan.specs.Plan.{factors_of, runs_of}
use Rattle.plan.proofs.Laws.Accepted.{accepted}
use Rattle.plan.specs.declared.refusals.Refusal.{Refusal}
use Rattle.plan.specs.Refusals.{number}
use Rattle.plan.proofs.Laws.Answers.{stops, completed}
use Rattle.plan.proofs.Laws.Limits.{run-admitted}
use Rattle.plan.proofs.Laws.Sizes.{factors-two, factors-three, as-power, plan-kind, runs-few}
use Rattle.recovery.specs.Calls.{recover_refused, recover_column}
use Rattle.recovery.specs.Inner.Answered.{Answered}
use Rattle.recovery.specs.Inner.Lent.{Summable, Sums, Narrow, Judgeable, Lent}
use Rattle.recovery.proofs.Laws.Judged.{Lengths, by-readings}
use Rattle.recovery.proofs.Summed.{kind-gentle}

pub denominator-few : (p : Plan) → plan_refused p ≡ 0 → denominator (factors_of p) ≤ 46_656
unfolding most_two most_three two three
denominator-few p ok = by (accepted p ok).levels
  where
    by : (p.levels ≡ 2) ⊎ (p.levels ≡ 3) → denominator (factors_of p) ≤ 46_656
    by (inl e) =
        rw (factors-two p e, denominator-alike p.k two)
        (le_trans (pow-le-pow_right {n = 2} (lit< tt) (accepted p ok).factors.1) (lit≤ tt))
    by (inr e) =
        rw (factors-three p e, denominator-alike p.k three)
        (le_trans (pow-le-pow_right {n = 6} (lit< tt) ((accepted p ok).factors.2 e)) (lit≤ tt))

half : value_limit < 2 ^ 31
unfolding value_limit
half = lit< tt

most-sum : 46_656 * value_limit ≤ mild_limit
unfolding value_limit mild_limit
most-sum = lit≤ tt

module _ {p : Plan} {ts xs : List ℤ} (l : Judgeable p ts xs) where
  roomy : denominator (factors_of p) * value_limit ≤ mild_limit
  roomy = le_trans (mul-le-mul_right value_limit (denominator-few p l.plan)) most-sum

  pub summable : {zs : List ℤ} → zs ≡ ts → Summable p.levels p.k zs
  unfolding factors_of
  summable e = rw e (record {
    kind = plan-kind p l.plan;
    whole = as-power p l.plan l.whole;
    roomy = rw (← (denominator-alike p.k (of_levels p.levels))) roomy;
    within = l.within;
  })

  -- the sums of the totals, over their denominator and beside the limit of a run sum, as code has these numbers
  module _ {zs : List ℤ} {D M : ℕ} (so : zs ≡ sums_from 1 (factors_of p) ts) (over : D ≡ denominator (factors_of p)) (limit : M ≡ run_limit p) where
    sums : zs ≡ tab (runs_of p) (back_sum (factors_of p) (read ts))
    sums = so ∙ sums-back (factors_of p) ts l.whole

    pub divisible : Sums D M zs
    unfolding factors_of
    divisible = rw (over, limit) (record {
      some = denominator-pos (factors_of p);
      fits = omega (arith, denominator-few p l.plan);
      narrow = omega (arith, run-admitted p l.plan, half);
      within = rw so (all-within 1 (factors_of p) value_limit ts (gentle-alike p.k (of_levels p.levels) (kind-gentle p.levels)) l.within);
      room = roomy;
    })

    pub missing : {b : Bool} → b ≡ any_missed D M zs → b ≡ no_readings (factors_of p) (run_limit p) ts
    missing e = e ∙ rw (over, limit) (judged (factors_of p) ts zs sums (run_limit p) l.whole)

    pub found : {qs : List ℤ} → qs ≡ quotients D zs → qs ≡ readings_back (factors_of p) ts
    found e = e ∙ rw over (quotients-back (factors_of p) ts zs sums)

module _ {p : Plan} {ts ys : List ℤ} (l : Lent p ts ys) where
  pub lengths : Lengths p ts ys
  lengths = record { plan = l.plan; whole = l.whole; same = l.same }

  pub few : length ts ≤ 1024
  few = rw l.whole (runs-few p l.plan)

  pub judgeable : {xs : List ℤ} → length xs ≡ runs_of p → Judgeable p ts xs
  judgeable e = record { plan = l.plan; whole = l.whole; values = e; within = l.within }

  module _ (e : no_readings (factors_of p) (run_limit p) ts ≡ false) where
    pub narrow : {qs : List ℤ} → qs ≡ readings_back (factors_of p) ts → Narrow qs ys
    narrow d =
        let f = back_found (factors_of p) (run_limit p) ts l.whole e in
        rw d (record { same = f.long ∙ sym l.same; within = λ i. le_trans (f.small i) (run-admitted p l.plan) })

    pub done : {new : List ℤ} → new ≡ readings_back (factors_of p) ts → Answered p ts ys new (given tt)
    unfolding recover_column
    done d =
        let z : recover_refused p ts ys ≡ 0 = by-readings lengths ∙ rw e refl in
        let r = completed tt (readings_back (factors_of p) ts) _ z d in
        record { answer = r.0; column = r.1 }

-- a refusal is that there are no readings
pub stopped_by : {p : Plan} {ts ys : List ℤ} → Lengths p ts ys → (r : Refusal) → number r ≡ cond (no_readings (factors_of p) (run_limit p) ts) 14 0
    → Answered p ts ys ys (refused (number r))
unfolding recover_column
stopped_by {p} {ts} {ys} l r e =
    let s = stops r tt (readings_back (factors_of p) ts) ys (e ∙ sym (by-readings l)) in
    record { answer = s.0; column = s.1 }
