-- That the claim `SumOfSquares` holds.
--
--   sum-of-squares    the proof
use Rattle.std.specs.Prelude.{◌≡◌, refl, List, ℕ, ◌+◌, ◌*◌, ◌/◌, ◌<◌, ℤ, pos, nat_abs}
use Rattle.std.proofs.Common.{sym, ap, ◌∙◌, mul-pos, mul-add, mul_comm, mul_assoc, mul_left_comm, arith}
use Rattle.std.proofs.Math.Nat.{eq_of_mul-eq-mul_left}
use Rattle.algebra.specs.Fractions.{sum_of}
use Rattle.algebra.specs.Naturals.{Σℕ}
use Rattle.algebra.specs.Laws.Fractions.{shared-sum, shared-two}
use Rattle.algebra.specs.Laws.Naturals.{Σℕ-cong, Σℕ-mul, Σℕ-split}
use Rattle.algebra.specs.Laws.Tab.{get_or-tab}
use Rattle.contrasts.specs.Columns.{read, totals_of, squares_of}
use Rattle.contrasts.specs.Repeats.{deviation}
use Rattle.contrasts.specs.Totals.{total, divisor*, denominator, weight*, numerator, numerator_of}
use Rattle.contrasts.proofs.Laws.Divisors.{divisor*-pos, shares, denominator-pos}
use Rattle.contrasts.proofs.Laws.Repeats.{sums-long, sums-within, deviations-are, within-is, all-squares, same-weight}
use Rattle.plan.specs.declared.types.Plan.{Plan}
use Rattle.plan.specs.Check.{plan_refused}
use Rattle.plan.specs.Limits.{reading_limit}
use Rattle.plan.specs.Plan.{factors_of, runs_of, all_readings, run_sums_of, denominator_of, divisor_of}
use Rattle.plan.proofs.Laws.Sizes.{some-repeat}
use Rattle.claims.specs.AnyOrder.{RunSums}
use Rattle.claims.proofs.Laws.AnyOrder.{any_order}
use Rattle.claims.specs.SumOfSquares.{AllReadings, square_over, about_mean, numerators_in, squares_within, ExactSquares, SumOfSquares}

-- a square, as a natural number
abbrev sq : ℤ → ℕ
sq z = nat_abs z * nat_abs z

module _ (p : Plan) (ok : plan_refused p ≡ 0) (readings : List ℤ) (start : AllReadings p readings) where
  abbrev sums : List ℤ
  sums = run_sums_of p readings

  abbrev totals : List ℤ
  totals = totals_of (factors_of p) sums

  some : 0 < p.repeats
  some = (some-repeat p ok).0

  starts : RunSums p sums
  starts = record { whole = sums-long (runs_of p) p.repeats readings; within = sums-within (runs_of p) p.repeats (reading_limit p) readings start.within }

  weight_is : (e : ℕ) → denominator_of p / divisor_of p e ≡ weight* (factors_of p) e
  weight_is e = same-weight (factors_of p) p.repeats e some

  -- the numerators, by the total of each effect
  numerators-are : numerators_in p totals ≡ Σℕ (runs_of p) (numerator (factors_of p) (read sums))
  unfolding totals_of numerator_of
  numerators-are =
      Σℕ-cong (runs_of p) (λ e h. rw (get_or-tab (pos 0) (runs_of p) (total (factors_of p) (read sums)) e h, weight_is e) refl)

  in-whole-numbers : numerators_in p totals + squares_within p readings ≡ denominator_of p * squares_of readings
  in-whole-numbers = rw numerators-are (all-squares (factors_of p) p.repeats some readings start.whole)

  -- ---- over r times the denominator

  abbrev common : ℕ
  common = p.repeats * denominator_of p

  some-common : 0 < common
  some-common = mul-pos some (mul-pos some (denominator-pos (factors_of p)))

  abbrev tops : ℕ
  tops = Σℕ (runs_of p) (λ e. (square_over p totals e).top * (p.repeats * weight* (factors_of p) e))

  of-totals : (0 < (sum_of (runs_of p) (square_over p totals)).bottom)
      × ((sum_of (runs_of p) (square_over p totals)).top * common ≡ tops * (sum_of (runs_of p) (square_over p totals)).bottom)
  of-totals =
      shared-sum (runs_of p) (square_over p totals) (λ e. p.repeats * weight* (factors_of p) e) common some-common
      (λ e h. grouped p.repeats (divisor* (factors_of p) e) (weight* (factors_of p) e) (denominator (factors_of p)) (shares (factors_of p) e))
    where
      grouped : (r d w n : ℕ) → d * w ≡ n → r * d * (r * w) ≡ r * (r * n)
      grouped r d w n e = omega (arith, ap (λ (m : ℕ). r * (r * m)) e)

  tops_are : tops ≡ p.repeats * numerators_in p totals
  tops_are =
      Σℕ-cong (runs_of p) (λ e h. rw (weight_is e) (mul_left_comm (square_over p totals e).top p.repeats (weight* (factors_of p) e)))
      ∙ Σℕ-mul p.repeats (runs_of p) (λ e. (square_over p totals e).top * (denominator_of p / divisor_of p e))

  abbrev rest : ℕ
  rest = Σℕ (all_readings p) (λ i. (about_mean p readings i).top * denominator (factors_of p))

  of-readings : (0 < (sum_of (all_readings p) (about_mean p readings)).bottom)
      × ((sum_of (all_readings p) (about_mean p readings)).top * common ≡ rest * (sum_of (all_readings p) (about_mean p readings)).bottom)
  of-readings =
      shared-sum (all_readings p) (about_mean p readings) (λ i. denominator (factors_of p)) common some-common
      (λ i h. mul_assoc p.repeats p.repeats (denominator (factors_of p)))

  -- all squares about the means are those that the numerator has
  rest-is : rest ≡ p.repeats * squares_within p readings
  rest-is =
      let r = p.repeats in
      let d = denominator (factors_of p) in
      Σℕ-cong (all_readings p) (λ i h. mul_comm (about_mean p readings i).top d)
      ∙ Σℕ-mul d (all_readings p) (λ i. (about_mean p readings i).top)
      ∙ ap (λ (n : ℕ). d * n)
      (ap (λ (n : ℕ). Σℕ n (λ i. (about_mean p readings i).top)) (mul_comm (runs_of p) r)
      ∙ Σℕ-split r (runs_of p) (λ j i. sq (deviation r (read readings) i j))
      ∙ deviations-are (factors_of p) r some readings start.whole)
      ∙ mul_left_comm d r _
      ∙ ap (λ (n : ℕ). r * n) (sym (within-is (factors_of p) r some readings start.whole))

  over-the-denominator : (sum_of (all_readings p) (about_mean p readings)).top * denominator_of p
      ≡ squares_within p readings * (sum_of (all_readings p) (about_mean p readings)).bottom
  over-the-denominator =
      let q = sum_of (all_readings p) (about_mean p readings) in
      eq_of_mul-eq-mul_left p.repeats some (q.top * denominator_of p) (squares_within p readings * q.bottom)
      (mul_left_comm p.repeats q.top (denominator_of p)
      ∙ of-readings.1
      ∙ rw rest-is (mul_assoc p.repeats (squares_within p readings) q.bottom))

  exact : ExactSquares p readings totals
  exact =
      record {
        squares =
            shared-two (sum_of (runs_of p) (square_over p totals)) (sum_of (all_readings p) (about_mean p readings)) tops rest common (squares_of readings)
            some-common of-totals of-readings
            (rw (tops_are, rest-is) (sym (mul-add p.repeats (numerators_in p totals) (squares_within p readings)) ∙ rw in-whole-numbers (sym (mul_assoc p.repeats (denominator_of p) (squares_of readings)))));
        numerators = in-whole-numbers;
        within = over-the-denominator;
        weights = λ e. rw (weight_is e) (mul_assoc p.repeats (divisor* (factors_of p) e) (weight* (factors_of p) e) ∙ ap (λ (n : ℕ). p.repeats * n) (shares (factors_of p) e));
        divisors = λ e. mul-pos some (divisor*-pos (factors_of p) e);
      }

pub sum-of-squares : SumOfSquares
sum-of-squares p ok readings start calls once =
    rw (any_order p ok (run_sums_of p readings) (starts p ok readings start) calls once).ends (exact p ok readings start)
