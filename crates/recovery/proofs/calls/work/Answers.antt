use Rattle.std.proofs.Common.{◌≡◌, false, rules, sym, ◌∙◌, arith}
use Rattle.std.specs.Prelude.{Err}
use Rattle.contrasts.specs.Recovery.{no_readings}
use Rattle.plan.specs.Limits.{run_limit}
use Rattle.plan.specs.Plan.{factors_of}
use Rattle.plan.proofs.Laws.Answers.{passed}
use Rattle.recovery.proofs.Found.{lengths, judgeable, narrow, stopped_by, done}
use Rattle.recovery.proofs.calls.work.Goals as goal

pub judge-requires : goal.judge-requires
judge-requires c = judgeable c.requires.lent c.requires.values

pub returns-in_err-judge : goal.returns-in_err-judge
returns-in_err-judge c =
    let first : c.from_residual.result ≡ Err c.in_err-judge.field-0.0 = search rules in
    rw first (stopped_by (lengths c.requires.lent) _ c.in_err-judge.ensures.value)

pub put-requires : goal.put-requires
put-requires c =
    let args = c.args in
    let some : no_readings (factors_of args.p) (run_limit args.p) args.totals.now ≡ false = (passed _ 14 0 (omega arith) (sym c.in_ok-judge.ensures.value)).0 in
    narrow c.requires.lent some c.judge.ensures.column_after

pub returns : goal.returns
returns c =
    let args = c.args in
    let some : no_readings (factors_of args.p) (run_limit args.p) args.totals.now ≡ false = (passed _ 14 0 (omega arith) (sym c.in_ok-judge.ensures.value)).0 in
    done c.requires.lent some (c.put.ensures ∙ c.judge.ensures.column_after)
