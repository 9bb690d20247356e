-- What the inner functions of the call promise of it.
--
--   Answered p ts old new r    the answer r, and the column `new` that is left where `old` was
use Rattle.std.specs.Prelude.{◌≡◌, List, ℤ}
use Rattle.plan.specs.declared.types.Plan.{Plan}
use Rattle.plan.specs.Outcome.{Outcome, outcome}
use Rattle.recovery.specs.Calls.{recover_refused, recover_column}

pub record Answered (p : Plan) (ts old new : List ℤ) (r : Outcome Unit) : Type 0 where
  pub answer : r ≡ outcome (recover_refused p ts old) tt
  pub column : new ≡ recover_column p ts old
