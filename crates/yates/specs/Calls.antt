-- The pass and the totals call: their numbers, and the columns that they leave.
--
--   pass_refusals p f xs            the refusals of the pass call besides those of the plan
--   pass_refused, pass_column       the pass call: the first number that applies, 0 where it is done, and the column at exit
--   totals_refusals                 those of the totals call
--   totals_refused, totals_column   the totals call: the same
use Rattle.std.specs.Prelude.{List, [], ◌∷◌, ℕ, leb, ℤ, length}
use Rattle.contrasts.specs.Columns.{pass_of, totals_of}
use Rattle.contrasts.specs.Limits.{value_limit}
use Rattle.plan.specs.declared.types.Plan.{Plan}
use Rattle.plan.specs.Check.{with_plan}
use Rattle.plan.specs.Outcome.{Refusal, refusal, written}
use Rattle.plan.specs.Plan.{factors_of, run_sums_of}
use Rattle.columns.specs.Refusals.{wrong_length, any_beyond, readings_refusals, readings_refused}

-- L9: "the pass 10, 11, 12"
-- N10: "pass factor [..] not a base factor"; N11: "pass or step column not N";
-- N12: "A pass or step, at either level count, now admits values to 1,024,000,000 either way."
abbrev pub pass_refusals : Plan → ℕ → List ℤ → List Refusal
pass_refusals p f xs = refusal 10 (leb p.k f) ∷ refusal 11 (wrong_length p (length xs)) ∷ refusal 12 (any_beyond value_limit xs) ∷ []

unfoldable pub pass_refused : Plan → ℕ → List ℤ → ℕ
pass_refused p f xs = with_plan p (pass_refusals p f xs)

-- T14: "The pass works in one column of N"
unfoldable pub pass_column : Plan → ℕ → List ℤ → List ℤ
pass_column p f xs = written (pass_refused p f xs) (pass_of (factors_of p) f xs) xs

-- N11: readings not N times r, totals not N long; N12: "reading beyond [its limit] either way", by the plan's levels
abbrev pub totals_refusals : Plan → List ℤ → List ℤ → List Refusal
totals_refusals p readings totals = readings_refusals p readings totals

abbrev pub totals_refused : Plan → List ℤ → List ℤ → ℕ
totals_refused p readings totals = readings_refused p readings totals

-- T2: "Totals are i64, N of them."; T29: "passes work on the run sums"
unfoldable pub totals_column : Plan → List ℤ → List ℤ → List ℤ
totals_column p readings totals = written (totals_refused p readings totals) (totals_of (factors_of p) (run_sums_of p readings)) totals
