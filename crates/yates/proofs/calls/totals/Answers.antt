use Rattle.std.proofs.Common.{◌≡◌, refl, sym, ◌∙◌}
use Rattle.plan.specs.Plan.{factors_of}
use Rattle.plan.proofs.Laws.Answers.{completed}
use Rattle.columns.specs.Laws.Admitted.{readings-admitted}
use Rattle.passes.specs.Laws.Plans.{plan-readings}
use Rattle.yates.specs.Calls.{totals_refused, totals_column}
use Rattle.yates.proofs.calls.totals.Goals as goal

pub form_totals-requires : goal.form_totals-requires
form_totals-requires c = plan-readings (readings-admitted _ _ _ (sym c.in_ok-check_readings.ensures))

pub returns : goal.returns
unfolding totals_column factors_of
returns c =
    let none : let args = c.args in totals_refused args.p args.readings.now args.totals.now ≡ 0 = sym c.in_ok-check_readings.ensures in
    let long = (readings-admitted _ _ _ none).same in
    let all = completed tt _ _ none (c.form_totals.ensures ∙ rw long refl) in
    record { result_value = all.0; totals_after = all.1 }
