-- T12, of the report's own step: "After k such steps it gives the same totals."
--
--   after_steps p lent column n   the column after n calls of the step; call n writes the column `lent n`
--   Lent p lent                   each column that is lent is one of N
--   answer p lent column n        what call n answers
--   InSteps p lent column         what is claimed of these calls
--   Steps                         THE CLAIM
use Rattle.std.specs.Prelude.{◌≡◌, List, ℕ, zero, suc, ◌<◌, ℤ, length}
use Rattle.contrasts.specs.Columns.{totals_of}
use Rattle.plan.specs.declared.types.Plan.{Plan}
use Rattle.plan.specs.Check.{plan_refused}
use Rattle.plan.specs.Outcome.{Outcome, given, outcome}
use Rattle.plan.specs.Plan.{factors_of, runs_of}
use Rattle.steps.specs.Step.{step_refused, step_column}
use Rattle.claims.specs.AnyOrder.{RunSums}

-- `step_column` is what the step call promises to leave in the column that it is lent to write
unfoldable pub after_steps : Plan → (ℕ → List ℤ) → List ℤ → ℕ → List ℤ
after_steps p lent column zero = column
after_steps p lent column (suc n) = step_column p (after_steps p lent column n) (lent n)

-- T14: "the step reads one column of N and writes another"
abbrev pub Lent : Plan → (ℕ → List ℤ) → Type 0
Lent p lent = (n : ℕ) → length (lent n) ≡ runs_of p

-- what call n answers
abbrev pub answer : Plan → (ℕ → List ℤ) → List ℤ → ℕ → Outcome Unit
answer p lent column n = outcome (step_refused p (after_steps p lent column n) (lent n)) tt

pub record InSteps (p : Plan) (lent : ℕ → List ℤ) (column : List ℤ) : Type 0 where
  pub answers : (n : ℕ) → n < p.k → answer p lent column n ≡ given tt
  pub ends : after_steps p lent column p.k ≡ totals_of (factors_of p) column

-- for every accepted plan, every column of N run sums within r times the reading limit, and whatever columns of N are lent
abbrev pub Steps : Type 0
Steps =
    (p : Plan) → plan_refused p ≡ 0
    → (column : List ℤ) → RunSums p column
    → (lent : ℕ → List ℤ) → Lent p lent
    → InSteps p lent column
