-- Refusals 11 and 12 of the table of refusals, of a column; and what a call that writes a column answers.
--
--   wrong_length p n                     refusal 11: a column of n places is not N long
--   wrong_readings p n                   refusal 11: n readings are not N times r
--   any_beyond limit xs                  refusal 12: a column that has a value beyond a limit
--   lengths_refused p wrong              the first number by the plan and by whether a length is wrong
--   lengths_then_values wrong limit xs   the refusals, besides those of the plan, of a call that reads the column xs and writes another
--   columns_refusals limit p xs ys       those of one that reads values, and writes the column ys
--   columns_refused limit p xs ys        its first number that applies, 0 where it is done
--   readings_refusals p xs ys            those of one that reads readings
--   readings_refused p xs ys             and its number
--   answer_outcome                       the cases of the answer
use Rattle.std.specs.Prelude.{Result, Bool, not, ◌||◌, List, [], ◌∷◌, ℕ, eqb, ℤ, length}
use Rattle.std.specs.List.{list_any}
use Rattle.plan.specs.declared.types.Plan.{Plan}
use Rattle.plan.specs.Check.{with_plan}
use Rattle.plan.specs.Limits.{reading_limit, is_beyond}
use Rattle.plan.specs.Outcome.{Refusal, refusal, Outcome}
use Rattle.plan.specs.Plan.{runs_of, all_readings}
use Rattle.plan.specs.Refusals.{outcome_by}
use Rattle.plan.specs.declared.refusals.Refusal as refusals

-- N11: "[..] totals [..] not N [..] long; pass or step column not N"
unfoldable pub wrong_length : Plan → ℕ → Bool
wrong_length p n = not (eqb n (runs_of p))

-- N11, S15: readings come r for each run
unfoldable pub wrong_readings : Plan → ℕ → Bool
wrong_readings p n = not (eqb n (all_readings p))

-- N12: "12 with these limits", of a column
unfoldable pub any_beyond : ℕ → List ℤ → Bool
any_beyond limit xs = list_any (is_beyond limit) xs

-- N11
unfoldable pub lengths_refused : Plan → Bool → ℕ
lengths_refused p wrong = with_plan p (refusal 11 wrong ∷ [])

-- N11, N12: a call that reads one column and writes another goes by their lengths, and by the values that it reads; the column that it
-- writes may hold any
abbrev pub lengths_then_values : Bool → ℕ → List ℤ → List Refusal
lengths_then_values wrong limit xs = refusal 11 wrong ∷ refusal 12 (any_beyond limit xs) ∷ []

-- of values
abbrev pub columns_refusals : ℕ → Plan → List ℤ → List ℤ → List Refusal
columns_refusals limit p xs ys = lengths_then_values (wrong_length p (length xs) || wrong_length p (length ys)) limit xs

unfoldable pub columns_refused : ℕ → Plan → List ℤ → List ℤ → ℕ
columns_refused limit p xs ys = with_plan p (columns_refusals limit p xs ys)

-- of readings
abbrev pub readings_refusals : Plan → List ℤ → List ℤ → List Refusal
readings_refusals p xs ys = lengths_then_values (wrong_readings p (length xs) || wrong_length p (length ys)) (reading_limit p) xs

unfoldable pub readings_refused : Plan → List ℤ → List ℤ → ℕ
readings_refused p xs ys = with_plan p (readings_refusals p xs ys)

-- F12: what a call makes is in the column, so the answer has no values
abbrev pub answer_outcome : Result Unit refusals.Refusal → Outcome Unit
answer_outcome answer = outcome_by (λ v. v) answer
