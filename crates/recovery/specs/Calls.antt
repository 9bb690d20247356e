-- The recovery call: its number, and the column that it leaves.
--
--   recover_refusals p ts column   its refusals besides those of the plan
--   recover_refused                the first number that applies, 0 where it is done
--   recover_column                 the column at exit
use Rattle.std.specs.Prelude.{◌||◌, List, [], ◌∷◌, ℕ, ℤ, length}
use Rattle.contrasts.specs.Recovery.{readings_back, no_readings}
use Rattle.plan.specs.declared.types.Plan.{Plan}
use Rattle.plan.specs.Check.{with_plan}
use Rattle.plan.specs.Limits.{run_limit}
use Rattle.plan.specs.Outcome.{Refusal, refusal, written}
use Rattle.plan.specs.Plan.{factors_of}
use Rattle.columns.specs.Refusals.{wrong_length}

-- N11: totals or readings not N long; N14, L15: "14, no such readings exist, after 11; no 12 here"
-- T34: "Recovery gives the N run sums, within r times the reading limit."; of runs that are made once these are the readings
abbrev pub recover_refusals : Plan → List ℤ → List ℤ → List Refusal
recover_refusals p ts column =
    refusal 11 (wrong_length p (length ts) || wrong_length p (length column)) ∷ refusal 14 (no_readings (factors_of p) (run_limit p) ts) ∷ []

unfoldable pub recover_refused : Plan → List ℤ → List ℤ → ℕ
recover_refused p ts column = with_plan p (recover_refusals p ts column)

-- T32: "Given a plan and N totals, write the N readings."
unfoldable pub recover_column : Plan → List ℤ → List ℤ → List ℤ
recover_column p ts column = written (recover_refused p ts column) (readings_back (factors_of p) ts) column
