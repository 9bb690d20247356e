-- The step call: its number, and the column that it leaves.
--
--   step_refusals p from to   the refusals of the call besides those of the plan
--   step_refused p from to    the first number that applies, 0 where the step is done
--   step_column p from to     the written column at exit
use Rattle.std.specs.Prelude.{List, ℕ, ℤ}
use Rattle.contrasts.specs.Columns.{step_of}
use Rattle.contrasts.specs.Limits.{value_limit}
use Rattle.contrasts.proofs.Factors.{of_levels}
use Rattle.plan.specs.declared.types.Plan.{Plan}
use Rattle.plan.specs.Outcome.{Refusal, written}
use Rattle.plan.specs.Plan.{runs_of}
use Rattle.columns.specs.Refusals.{columns_refusals, columns_refused}

-- L10: "the step 11, 12"
-- N11: "pass or step column not N"; N12: "A pass or step, at either level count, now admits values to 1,024,000,000 either way."
abbrev pub step_refusals : Plan → List ℤ → List ℤ → List Refusal
step_refusals p from to = columns_refusals value_limit p from to

abbrev pub step_refused : Plan → List ℤ → List ℤ → ℕ
step_refused p from to = columns_refused value_limit p from to

-- T14: "the step reads one column of N and writes another"
unfoldable pub step_column : Plan → List ℤ → List ℤ → List ℤ
step_column p from to = written (step_refused p from to) (step_of (runs_of p) (of_levels p.levels) from) to
