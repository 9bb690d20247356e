-- D3.7: "The squares of the totals, each over its divisor, and the squares of readings about their run's mean together equal the sum of all
-- squared readings", of the totals that any such list of passes leaves of the run sums.
--
--   AllReadings p readings           readings of all runs, r of each, within the limit
--   square_over p totals e           the square of the total of effect e, over its divisor: a fraction
--   about_mean p readings i          the square of the reading at place i about the mean of its run: a fraction
--   numerator_in p totals e          the numerator of effect e, by its total
--   numerators_in p totals           the numerators of a column of totals, added up
--   squares_within p readings        the numerator of the squares about the run's mean, over the table's denominator
--   ExactSquares p readings totals   what is claimed of the totals of readings
--   SumOfSquares                     THE CLAIM
use Rattle.std.specs.Prelude.{◌≡◌, List, ℕ, ◌+◌, ◌*◌, ◌/◌, ◌%◌, ◌<◌, ℤ, nat_abs, length}
use Rattle.algebra.specs.Fractions.{Fraction, ◌over◌, plus, sum_of, Is}
use Rattle.algebra.specs.Naturals.{Σℕ}
use Rattle.contrasts.specs.Columns.{read, AllWithin, squares_of}
use Rattle.contrasts.specs.Repeats.{deviation, within_runs}
use Rattle.plan.specs.declared.types.Plan.{Plan}
use Rattle.plan.specs.Check.{plan_refused}
use Rattle.plan.specs.Limits.{reading_limit}
use Rattle.plan.specs.Plan.{factors_of, runs_of, all_readings, run_sums_of, denominator_of, divisor_of}
use Rattle.claims.specs.AnyOrder.{after_calls, EachOnce}

-- R10, T1
pub record AllReadings (p : Plan) (readings : List ℤ) : Type 0 where
  pub whole : length readings ≡ all_readings p
  pub within : AllWithin (reading_limit p) readings

-- D3.7: "each over its divisor"
abbrev pub square_over : Plan → List ℤ → ℕ → Fraction
square_over p totals e = (nat_abs (read totals e) * nat_abs (read totals e)) over divisor_of p e

-- D3.7: "the squares of readings about their run's mean": place i has reading i % r of run i / r; r times what that differs from the mean of
-- the run is a whole number (`deviation`), and its square is over r r
abbrev pub about_mean : Plan → List ℤ → ℕ → Fraction
about_mean p readings i =
    let d = deviation p.repeats (read readings) (i / p.repeats) (i % p.repeats) in
    (nat_abs d * nat_abs d) over (p.repeats * p.repeats)

-- T19, T30: "A numerator is a total squared times (denominator over divisor).", both of them times r
abbrev pub numerator_in : Plan → List ℤ → ℕ → ℕ
numerator_in p totals e = nat_abs (read totals e) * nat_abs (read totals e) * (denominator_of p / divisor_of p e)

abbrev pub numerators_in : Plan → List ℤ → ℕ
numerators_in p totals = Σℕ (runs_of p) (numerator_in p totals)

abbrev pub squares_within : Plan → List ℤ → ℕ
squares_within p readings = within_runs (factors_of p) p.repeats (read readings)

pub record ExactSquares (p : Plan) (readings totals : List ℤ) : Type 0 where
  -- D3.7: "together equal the sum of all squared readings", without rounding
  pub squares : Is (plus (sum_of (runs_of p) (square_over p totals)) (sum_of (all_readings p) (about_mean p readings))) (squares_of readings)
  -- T28: "in whole numbers: the numerators of all N effects and the numerator of these squares over the new denominator add up to that
  -- denominator times that sum"
  pub numerators : numerators_in p totals + squares_within p readings ≡ denominator_of p * squares_of readings
  -- V16: "the numerator of these squares over the new denominator": over it, that number is their sum
  pub within : (sum_of (all_readings p) (about_mean p readings)).top * denominator_of p
      ≡ squares_within p readings * (sum_of (all_readings p) (about_mean p readings)).bottom
  -- T19: "(denominator over divisor)" leaves no remainder, and no divisor is 0
  pub weights : (e : ℕ) → divisor_of p e * (denominator_of p / divisor_of p e) ≡ denominator_of p
  pub divisors : (e : ℕ) → 0 < divisor_of p e

-- for every accepted plan, all readings within the limit, and every list of calls that names each base factor once
abbrev pub SumOfSquares : Type 0
SumOfSquares =
    (p : Plan) → plan_refused p ≡ 0
    → (readings : List ℤ) → AllReadings p readings
    → (calls : List ℕ) → EachOnce p calls
    → ExactSquares p readings (after_calls p calls (run_sums_of p readings))
