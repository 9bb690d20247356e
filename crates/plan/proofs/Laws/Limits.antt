-- The limits of a plan.
--
--   limit-two, limit-three      the limit of readings, by the levels
--   reading-most                it is at most 1,000,000
--   plan-roomy                  of an accepted plan: from run sums within their limit values and numerators do not leave theirs
--   plan-rounds                 nor do the numbers of the rounds of the check
--   some-reading, reading-fits  the limit of readings is not 0, and fits an i32
--   run-admitted                a run sum is a value that a pass admits
--   numerator-fits              the limit of numerators fits an i64
use Rattle.std.specs.Prelude.{◌≡◌, refl, ◌⊎◌, ◌-◌, ◌*◌, ◌^◌, ◌<◌, ◌≤◌, eqb, replicate}
use Rattle.std.proofs.Common.{inl, inr, arith, lit<, lit≤}
use Rattle.std.proofs.Math.Nat.{mul-le-mul}
use borrow.Author.Tests.{eq-eqb, ne_eqb}
use Rattle.algebra.specs.Laws.Tests.{either}
use Rattle.contrasts.specs.Limits.{two_reading_limit, three_reading_limit, two_numerator_limit, three_numerator_limit, value_limit, most_readings}
use Rattle.contrasts.proofs.Factors.{two, three}
use Rattle.contrasts.specs.Totals.{size}
use Rattle.contrasts.proofs.Laws.Limits.{Roomy, two-roomy, three-roomy, three-rounds}
use Rattle.plan.specs.declared.types.Plan.{Plan}
use Rattle.plan.specs.Plan.{factors_of}
use Rattle.plan.specs.Check.{plan_refused}
use Rattle.plan.specs.Limits.{reading_limit, run_limit, numerator_limit}
use Rattle.plan.proofs.Laws.Accepted.{Accepted, accepted}
use Rattle.plan.proofs.Laws.Sizes.{factors-two, factors-three, some-repeat}

pub limit-two : (p : Plan) → p.levels ≡ 2 → reading_limit p ≡ two_reading_limit
unfolding reading_limit
limit-two p e = rw (eq-eqb p.levels 2 e) refl

pub limit-three : (p : Plan) → (p.levels ≡ 2 → ⊥) → reading_limit p ≡ three_reading_limit
unfolding reading_limit
limit-three p h = rw (ne_eqb p.levels 2 h) refl

pub reading-most : (p : Plan) → reading_limit p ≤ 1_000_000
unfolding reading_limit two_reading_limit three_reading_limit
reading-most p = either (eqb p.levels 2) two_reading_limit three_reading_limit (λ n. n ≤ 1_000_000) (λ _. lit≤ tt) (λ _. lit≤ tt)

module _ (p : Plan) (z : plan_refused p ≡ 0) where
  abbrev ok : Accepted p
  ok = accepted p z

  few-two : p.levels ≡ 2 → size (replicate p.k two) * p.repeats ≤ most_readings
  few-two e = rw (← (factors-two p e)) ok.repeats.1

  few-three : p.levels ≡ 3 → size (replicate p.k three) * p.repeats ≤ most_readings
  few-three e = rw (← (factors-three p e)) ok.repeats.1

  pub plan-roomy : Roomy (factors_of p) (run_limit p) (numerator_limit p)
  unfolding reading_limit numerator_limit
  plan-roomy = by ok.levels
    where
      by : (p.levels ≡ 2) ⊎ (p.levels ≡ 3) → Roomy (factors_of p) (run_limit p) (numerator_limit p)
      by (inl e) = rw (factors-two p e, eq-eqb p.levels 2 e) (two-roomy p.k p.repeats ok.factors.1 ok.repeats.0 (few-two e))
      by (inr e) = rw (factors-three p e, ne_eqb p.levels 2 (omega arith)) (three-roomy p.k p.repeats (ok.factors.2 e) ok.repeats.0 (few-three e))

  pub plan-rounds : p.levels ≡ 3 → 5 ^ (p.k - 1) * run_limit p ≤ value_limit
  plan-rounds e = rw (limit-three p (omega arith)) (three-rounds p.k p.repeats (ok.factors.2 e) ok.repeats.0 (few-three e))

  pub run-admitted : run_limit p ≤ value_limit
  unfolding value_limit
  run-admitted = omega (arith, mul-le-mul (some-repeat p z).1 (reading-most p))

-- ---- of any plan

pub some-reading : (p : Plan) → 0 < reading_limit p
unfolding reading_limit two_reading_limit three_reading_limit
some-reading p = either (eqb p.levels 2) two_reading_limit three_reading_limit (λ n. 0 < n) (λ _. lit< tt) (λ _. lit< tt)

pub reading-fits : (p : Plan) → reading_limit p < 2 ^ 31
unfolding reading_limit two_reading_limit three_reading_limit
reading-fits p = either (eqb p.levels 2) two_reading_limit three_reading_limit (λ n. n < 2 ^ 31) (λ _. lit< tt) (λ _. lit< tt)

pub numerator-fits : (p : Plan) → numerator_limit p < 2 ^ 63
unfolding numerator_limit two_numerator_limit three_numerator_limit
numerator-fits p = either (eqb p.levels 2) two_numerator_limit three_numerator_limit (λ n. n < 2 ^ 63) (λ _. lit< tt) (λ _. lit< tt)
