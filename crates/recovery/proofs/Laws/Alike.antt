-- Places beyond a plan's counts are ignored by the recovery call too.
--
--   same-recover, same-recover-column    plans that agree as far as their counts reach get the same number, and the same column
use Rattle.std.specs.Prelude.{◌≡◌, List, ℤ}
use Rattle.std.proofs.Math.Path.{refl}
use Rattle.plan.specs.declared.types.Plan.{Plan}
use Rattle.plan.specs.Check.{with_plan}
use Rattle.plan.proofs.Laws.Alike.{Alike, same-refused, same-factors, same-limit}
use Rattle.columns.specs.Refusals.{wrong_length}
use Rattle.recovery.specs.Calls.{recover_refused, recover_column}

module _ {p q : Plan} (a : Alike p q) where
  pub same-recover : (ts column : List ℤ) → recover_refused p ts column ≡ recover_refused q ts column
  unfolding recover_refused with_plan wrong_length
  same-recover ts column = rw (same-refused a, same-limit a, same-factors a, a.repeats) refl

  pub same-recover-column : (ts column : List ℤ) → recover_column p ts column ≡ recover_column q ts column
  unfolding recover_column
  same-recover-column ts column = rw (same-recover ts column, same-factors a) refl
