-- The estimate call: the mean, a difference, or lost to blocks.
--
--   Value                   the three outcomes
--   mean_divisor p          what the total is divided by for the mean
--   difference_divisor p    and for a difference
--   exponent_of r           r as a power of two
--   power_of p              the number of readings as a power of two
--   printed_total e t       the total t of the effect e with the sign that journals print, high minus low
--   mean_of m t             the mean of 2 ^ m readings with the total t
--   difference_of m e t     a difference of two halves of them, by the effect e too
--   value_by lost m e t     the outcome of the effect e with the total t, by whether it is lost
--   estimate_value p e t    the outcome of an effect of a plan
--   total_limit p           the largest size of a total that is admitted
--   estimate_refusals p e t  the refusals of the call besides those of the plan
--   estimate_refused p e t   the first number that applies, 0 where an estimate is given
--   value_of                 the cases of what the call gives
--   estimate_outcome         and of its answer
--   ExactlyGiven p e t o     a mean or a difference that is given is exactly its quotient
use Rattle.std.specs.Prelude.{Result, Bool, cond, List, [], ◌∷◌, ℕ, ◌+◌, ◌*◌, ◌-◌, ◌^◌, eqb, ℤ, neg_ℤ, Float}
use Rattle.words.specs.Words.{odd_word, beyond}
use Rattle.plan.specs.declared.types.Plan.{Plan}
use Rattle.plan.specs.Outcome.{Refusal, refusal, Outcome, given, refused}
use Rattle.plan.specs.Refusals.{outcome_by}
use Rattle.plan.specs.declared.refusals.Refusal as refusals
use Rattle.plan.specs.Plan.{confounded_in}
use Rattle.plan.specs.Check.{with_plan}
use Rattle.plan.specs.Limits.{run_limit, is_beyond}
use Rattle.estimates.specs.declared.types.Estimate.{Estimate}
use Rattle.estimates.specs.declared.types.Estimate.TheVariants as estimate
use Rattle.estimates.specs.Quotient.{Exactly, quotient}

-- ---- the values

-- E1: "the estimate has three outcomes: the mean as a double, a difference as a double, or lost to blocks with no number"
pub data Value : Type 0 where
  mean : Float → Value
  difference : Float → Value
  lost : Value

-- E3: "The mean is the total over 2 to the power k (the report's first entry is twice that)"; T30: "all divisors (the estimate's too) [..] are
-- multiplied by r"
abbrev pub mean_divisor : Plan → ℕ
mean_divisor p = 2 ^ p.k * p.repeats

-- E4: "a difference the total over 2 to the power k - 1"; T30
abbrev pub difference_divisor : Plan → ℕ
difference_divisor p = 2 ^ (p.k - 1) * p.repeats

-- P12: "1, 2, 4 or 8" are 2 to the power 0, 1, 2 and 3 (`repeats-power` in `Laws/Powers.antt`)
unfoldable pub exponent_of : ℕ → ℕ
exponent_of r = cond (eqb r 8) 3 (cond (eqb r 4) 2 (cond (eqb r 2) 1 0))

-- 2 to this power is the mean's divisor, the number of readings, and half of that the divisor of a difference (`mean-power`,
-- `difference-power`)
abbrev pub power_of : Plan → ℕ
power_of p = p.k + exponent_of p.repeats

-- E3: "the total over" that divisor, 2 to the power m
unfoldable pub mean_of : ℕ → ℤ → Float
mean_of m t = quotient t m

-- E4: "negated when the effect has an odd number of letters"
-- E6: "A zero total still gives positive zero.": it is the whole number that is negated, and not the double
unfoldable pub printed_total : ℕ → ℤ → ℤ
printed_total e t = cond (odd_word e) (neg_ℤ t) t

-- E4: "a difference the total over" half of that, as it is printed
unfoldable pub difference_of : ℕ → ℕ → ℤ → Float
difference_of m e t = quotient (printed_total e t) (m - 1)

-- E1, E2: the empty effect, 0, has the mean, and every other a difference
unfoldable pub value_by : Bool → ℕ → ℕ → ℤ → Value
value_by b m e t = cond b lost (cond (eqb e 0) (mean (mean_of m t)) (difference (difference_of m e t)))

-- E2: "Lost is the outcome exactly when the effect is confounded."
abbrev pub estimate_value : Plan → ℕ → ℤ → Value
estimate_value p e t = value_by (confounded_in p e) (power_of p) e t

-- ---- the numbers

-- E7: "The caller hands in the total"; "the reading limit becomes 1,000,000 either way, and the estimate's limit 2 to the power k times that";
-- T30: "and the estimate's limit are multiplied by r"
abbrev pub total_limit : Plan → ℕ
total_limit p = 2 ^ p.k * run_limit p

-- L8: "the estimate 9, 10, 12"
-- N9: "estimate, alias [..] asked at three levels"; N10: "[..] estimate's letter not a base factor";
-- N12: "estimate's total beyond its limit"
abbrev pub estimate_refusals : Plan → ℕ → ℤ → List Refusal
estimate_refusals p e t = refusal 9 (eqb p.levels 3) ∷ refusal 10 (beyond p.k e) ∷ refusal 12 (is_beyond (total_limit p) t) ∷ []

unfoldable pub estimate_refused : Plan → ℕ → ℤ → ℕ
estimate_refused p e t = with_plan p (estimate_refusals p e t)

-- ---- the answer

-- F12
abbrev pub value_of : Estimate → Value
value_of (estimate.Mean x) = mean x
value_of (estimate.Difference x) = difference x
value_of estimate.Lost = lost

abbrev pub estimate_outcome : Result Estimate refusals.Refusal → Outcome Value
estimate_outcome answer = outcome_by value_of answer

-- E5: "The double is exactly that quotient": a mean times 2 to the power k times r is the total, and a difference times 2 to the power k - 1
-- times r the total as it is printed; there is no number where the effect is lost or the call is refused
abbrev pub ExactlyGiven : Plan → ℕ → ℤ → Outcome Value → Type 0
ExactlyGiven p e t (given (mean x)) = Exactly t (mean_divisor p) x
ExactlyGiven p e t (given (difference x)) = Exactly (printed_total e t) (difference_divisor p) x
ExactlyGiven p e t (given lost) = Unit
ExactlyGiven p e t (refused n) = Unit
