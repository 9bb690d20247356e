-- What the walk asks of what it is handed.
--
--   PlanWalkable p ts rows   totals and rows of an accepted plan, whose sums fit
--   Squarable x              the square of x fits
use Rattle.std.specs.Prelude.{◌≡◌, List, ℕ, ◌*◌, ◌^◌, ◌<◌, ℤ, nat_abs, length}
use Rattle.algebra.specs.Naturals.{Σℕ}
use Rattle.contrasts.specs.Columns.{read}
use Rattle.plan.specs.declared.types.Plan.{Plan}
use Rattle.plan.specs.Check.{plan_refused}
use Rattle.plan.specs.Plan.{runs_of}
use Rattle.rows.specs.Kinds.{rows_in}
use Rattle.walks.specs.After.{numerator_at}

pub record PlanWalkable (p : Plan) (ts : List ℤ) (rows : List ℕ) : Type 0 where
  pub plan : plan_refused p ≡ 0
  pub whole : length ts ≡ runs_of p
  pub rows_long : length rows ≡ rows_in p
  -- the sum of all numerators, which is the bound of every sum of some of them
  pub sum_fits : Σℕ (runs_of p) (numerator_at p (read ts)) < 2 ^ 63

pub record Squarable (x : ℤ) : Type 0 where
  pub square-fits : nat_abs x * nat_abs x < 2 ^ 63
