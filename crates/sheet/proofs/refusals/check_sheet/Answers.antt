use Rattle.std.proofs.Common.{◌≡◌, false, rules, refl, sym, ◌∙◌}
use Rattle.std.specs.Prelude.{Err}
use Rattle.algebra.specs.Laws.Tests.{is}
use Rattle.sheet.proofs.Judging.{bad, by-plan, by-bodies}
use Rattle.sheet.proofs.refusals.check_sheet.Goals as goal

pub returns-then-bad_fields : goal.returns-then-bad_fields
returns-then-bad_fields c = bad _ _ _ (is c.bad_fields.ensures c.if-bad_fields.true)

pub returns-in_err-check : goal.returns-in_err-check
returns-in_err-check c =
    let first : c.from_residual.result ≡ Err c.in_err-check.field-0.0 = search rules in
    rw first (by-plan _ _ _ (is c.bad_fields.ensures c.if-bad_fields.false) _ c.in_err-check.ensures.number)

pub returns-then-needless : goal.returns-then-needless
returns-then-needless c =
    let number = by-bodies _ c.args.p c.args.narrow (is c.bad_fields.ensures c.if-bad_fields.false) (sym c.in_ok-check.ensures.number)
    c.body-readings.ensures c.body-marks.ensures in
    sym (number ∙ rw (is c.needless_repeats-needless.ensures c.if-needless.true) refl)

pub returns-then-wrong : goal.returns-then-wrong
returns-then-wrong c =
    let number = by-bodies _ c.args.p c.args.narrow (is c.bad_fields.ensures c.if-bad_fields.false) (sym c.in_ok-check.ensures.number)
    c.body-readings.ensures c.body-marks.ensures in
    sym (number ∙ rw (is {v = false} c.needless_repeats-needless.ensures (cc), is c.wrong_lengths-wrong.ensures c.if-wrong.true) refl)

pub returns-then-any_beyond : goal.returns-then-any_beyond
returns-then-any_beyond c =
    let number = by-bodies _ c.args.p c.args.narrow (is c.bad_fields.ensures c.if-bad_fields.false) (sym c.in_ok-check.ensures.number)
    c.body-readings.ensures c.body-marks.ensures in
    sym
    (number ∙ rw (is {v = false} c.needless_repeats-needless.ensures (cc), is {v = false} c.wrong_lengths-wrong.ensures (cc), is c.any_beyond.ensures c.if-any_beyond.true) refl)

pub returns-then-bad_marks : goal.returns-then-bad_marks
returns-then-bad_marks c =
    let number = by-bodies _ c.args.p c.args.narrow (is c.bad_fields.ensures c.if-bad_fields.false) (sym c.in_ok-check.ensures.number)
    c.body-readings.ensures c.body-marks.ensures in
    let before = is c.any_beyond.ensures c.if-any_beyond.false in
    sym
    (number
    ∙ rw (is {v = false} c.needless_repeats-needless.ensures (cc), is {v = false} c.wrong_lengths-wrong.ensures (cc), before, is c.bad_marks.ensures c.if-bad_marks.true) refl)

pub returns : goal.returns
returns c =
    let number = by-bodies _ c.args.p c.args.narrow (is c.bad_fields.ensures c.if-bad_fields.false) (sym c.in_ok-check.ensures.number)
    c.body-readings.ensures c.body-marks.ensures in
    let before = is c.any_beyond.ensures c.if-any_beyond.false in
    sym
    (number
    ∙ rw (is {v = false} c.needless_repeats-needless.ensures (cc), is {v = false} c.wrong_lengths-wrong.ensures (cc), before, is c.bad_marks.ensures c.if-bad_marks.false) refl)
