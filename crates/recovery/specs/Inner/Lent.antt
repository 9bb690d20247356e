-- What the inner functions ask of what they are lent.
--
--   Summable levels k xs     a column of levels to the power k values, such as a pass admits, whose sums leave room
--   Sums D M zs              sums that are no larger than D times what a pass admits; numbers D and M that fit
--   Narrow xs ys             values such as a pass admits, and as many places for readings
--   Judgeable p ts xs        N totals of an accepted plan, such as a pass admits, and as many places for values
--   Lent p ts ys             the same, with places for readings
--   Worked p ts xs ys        the same, with places for both
use Rattle.std.specs.Prelude.{◌≡◌, List, ℕ, ◌*◌, ◌^◌, ◌<◌, ◌≤◌, ℤ, length}
use Rattle.contrasts.specs.Columns.{AllWithin}
use Rattle.contrasts.proofs.Factors.{of_levels}
use Rattle.contrasts.specs.Limits.{value_limit}
use Rattle.contrasts.proofs.Laws.Small.{mild_limit}
use Rattle.plan.specs.declared.types.Plan.{Plan}
use Rattle.plan.specs.Check.{plan_refused}
use Rattle.plan.specs.Plan.{runs_of}

pub record Summable (levels k : ℕ) (xs : List ℤ) : Type 0 where
  pub kind : (of_levels levels).levels ≡ levels
  pub whole : length xs ≡ levels ^ k
  pub roomy : (of_levels levels).common ^ k * value_limit ≤ mild_limit
  pub within : AllWithin value_limit xs

pub record Sums (D M : ℕ) (zs : List ℤ) : Type 0 where
  pub some : 0 < D
  pub fits : D < 2 ^ 31
  pub narrow : M < 2 ^ 31
  pub within : AllWithin (D * value_limit) zs
  pub room : D * value_limit ≤ mild_limit

pub record Narrow (xs ys : List ℤ) : Type 0 where
  pub same : length xs ≡ length ys
  pub within : AllWithin value_limit xs

pub record Judgeable (p : Plan) (ts xs : List ℤ) : Type 0 where
  pub plan : plan_refused p ≡ 0
  pub whole : length ts ≡ runs_of p
  pub values : length xs ≡ runs_of p
  pub within : AllWithin value_limit ts

pub record Lent (p : Plan) (ts ys : List ℤ) : Type 0 where
  pub plan : plan_refused p ≡ 0
  pub whole : length ts ≡ runs_of p
  pub same : length ys ≡ runs_of p
  pub within : AllWithin value_limit ts

pub record Worked (p : Plan) (ts xs ys : List ℤ) : Type 0 where
  pub lent : Lent p ts ys
  pub values : length xs ≡ runs_of p
