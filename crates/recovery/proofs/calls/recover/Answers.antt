use Rattle.std.proofs.Common.{◌≡◌, rules, refl, sym, length}
use Rattle.std.specs.Prelude.{Err}
use Rattle.algebra.specs.Laws.Tests.{is}
use Rattle.plan.specs.declared.refusals.Refusal.TheVariants as refusal
use Rattle.plan.proofs.Laws.Answers.{number_some, stops}
use Rattle.columns.specs.Laws.Admitted.{all-within}
use Rattle.columns.specs.Laws.Lengths.{by_runs, by_lengths}
use Rattle.recovery.specs.Calls.{recover_refused, recover_column}
use Rattle.recovery.proofs.Laws.Judged.{judged-lengths, beyond}
use Rattle.recovery.proofs.Found.{stopped_by}
use Rattle.recovery.proofs.calls.recover.Goals as goal

pub returns-in_err-check_lengths : goal.returns-in_err-check_lengths
unfolding recover_refused recover_column
returns-in_err-check_lengths c =
    let args = c.args in
    let first : c.from_residual.result ≡ Err c.in_err-check_lengths.field-0.0 = search rules in
    let by-plan = by_runs args.p (length args.totals.now) (length args.readings.now) c.in_err-check_lengths.ensures c.runs.ensures in
    let stopped = stops _ _ _ _ (by_lengths _ _ _ by-plan (number_some _)) in
    record { result_value = rw first stopped.0; readings_after = stopped.1 }

pub returns-then-any_value_beyond : goal.returns-then-any_value_beyond
returns-then-any_value_beyond c =
    let args = c.args in
    let by-plan = by_runs args.p (length args.totals.now) (length args.readings.now) c.in_ok-check_lengths.ensures c.runs.ensures in
    let lengths = judged-lengths args.p args.totals.now args.readings.now (sym by-plan) in
    let none = beyond lengths (is c.any_value_beyond.ensures c.if-any_value_beyond.true) in
    let answered = stopped_by lengths refusal.NoReadings (rw none refl) in
    record { result_value = answered.answer; readings_after = answered.column }

pub lend-requires : goal.lend-requires
lend-requires c =
    let args = c.args in
    let by-plan = by_runs args.p (length args.totals.now) (length args.readings.now) c.in_ok-check_lengths.ensures c.runs.ensures in
    let lengths = judged-lengths args.p args.totals.now args.readings.now (sym by-plan) in
    record {
      plan = lengths.plan;
      whole = lengths.whole;
      same = lengths.same;
      within = all-within _ _ (is c.any_value_beyond.ensures c.if-any_value_beyond.false);
    }

pub returns : goal.returns
returns c = record { result_value = c.lend.ensures.answer; readings_after = c.lend.ensures.column }
