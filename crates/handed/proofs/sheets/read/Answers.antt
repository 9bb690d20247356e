use Rattle.std.proofs.Common.{◌≡◌, rules, arith}
use Rattle.std.specs.Prelude.{Err}
use Rattle.handed.proofs.Spans.{own-fit, marks-fit, read_done, read-stopped}
use Rattle.handed.proofs.sheets.read.Goals as goal

pub returns-in_err-read : goal.returns-in_err-read
returns-in_err-read c =
    let first : c.from_residual.result ≡ Err c.in_err-read.field-0.0 = search rules in
    let all = read-stopped _ _ _ _ c.in_err-read.ensures.answer_value c.in_err-read.ensures.column_after in
    record { value = rw first all.0; readings_after = all.1.0; span_after = all.1.1 }

pub overflow_sub-span : goal.overflow_sub-span
overflow_sub-span c = omega (arith, own-fit _ _ c.in_ok-read.ensures.answer_value c.body-own.ensures)

pub overflow_sub-span-2 : goal.overflow_sub-span-2
overflow_sub-span-2 c = omega (arith, marks-fit _ _ c.in_ok-read.ensures.answer_value c.body-own.ensures c.body-marks.ensures)

pub returns : goal.returns
returns c =
    let all = read_done _ _ _ c.in_ok-read.ensures.answer_value c.in_ok-read.ensures.column_after c.body-own.ensures c.body-marks.ensures in
    record { value = all.0; readings_after = all.1.0; span_after = all.1.1 }
