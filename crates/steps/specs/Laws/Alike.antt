-- Places beyond a plan's counts are ignored by the step call too.
--
--   same_step, same-step-column    plans that agree as far as their counts reach get the same number, and the same column
use Rattle.std.specs.Prelude.{◌≡◌, List, ℤ}
use Rattle.std.proofs.Math.Path.{refl}
use Rattle.contrasts.specs.Limits.{value_limit}
use Rattle.plan.specs.declared.types.Plan.{Plan}
use Rattle.plan.proofs.Laws.Alike.{Alike, same-factors}
use Rattle.columns.specs.Laws.Alike.{same-columns}
use Rattle.steps.specs.Step.{step_refused, step_column}

module _ {p q : Plan} (a : Alike p q) (from to : List ℤ) where
  pub same_step : step_refused p from to ≡ step_refused q from to
  same_step = same-columns a value_limit from to

  pub same-step-column : step_column p from to ≡ step_column q from to
  unfolding step_column
  same-step-column = rw (same_step, same-factors a, a.levels) refl
