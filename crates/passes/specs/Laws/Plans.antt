-- The readings of a plan that are not refused can be passed over.
--
--   plan-readings    readings of all runs of an accepted plan, within its limit, and a column with a place for each run
use Rattle.std.specs.Prelude.{refl, List, ℤ}
use Rattle.std.proofs.Common.{◌∙◌}
use Rattle.plan.specs.declared.types.Plan.{Plan}
use Rattle.plan.specs.Limits.{reading_limit}
use Rattle.plan.specs.Plan.{factors_of}
use Rattle.plan.proofs.Laws.Limits.{plan-roomy}
use Rattle.plan.proofs.Laws.Sizes.{as-power, plan-kind, some-repeat}
use Rattle.columns.specs.Laws.Admitted.{Readings}
use Rattle.passes.specs.Ready.{RunReadings}

pub plan-readings : {p : Plan} {readings totals : List ℤ} → Readings p readings totals → RunReadings p.levels p.k p.repeats readings totals
unfolding factors_of
plan-readings {p} a =
    record {
      kind = plan-kind p a.plan;
      limit = reading_limit p;
      passable = (plan-roomy p a.plan).passable;
      few = (some-repeat p a.plan).1;
      whole = as-power p a.plan a.same;
      all = a.whole ∙ rw a.same refl;
      within = a.within;
    }
