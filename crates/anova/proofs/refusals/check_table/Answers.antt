use Rattle.std.proofs.Common.{◌≡◌, rules, refl, sym, ◌∙◌}
use Rattle.std.specs.Prelude.{Err}
use Rattle.algebra.specs.Laws.Tests.{is}
use Rattle.plan.specs.Check.{plan_refused}
use Rattle.plan.proofs.Laws.Answers.{plan_stops, after-plan}
use Rattle.anova.specs.Table.{table_refused}
use Rattle.anova.proofs.refusals.check_table.Goals as goal

pub returns-in_err-check : goal.returns-in_err-check
unfolding table_refused
returns-in_err-check c =
    let first : c.from_residual.result ≡ Err c.in_err-check.field-0.0 = search rules in
    rw first (plan_stops _ _ _ c.in_err-check.ensures.number)

pub wrong_lengths-requires : goal.wrong_lengths-requires
wrong_lengths-requires c = sym c.in_ok-check.ensures.number

pub returns-then-wrong_lengths : goal.returns-then-wrong_lengths
unfolding table_refused
returns-then-wrong_lengths c =
    let accepted : plan_refused c.args.p ≡ 0 = sym c.in_ok-check.ensures.number in
    let lengths = is c.wrong_lengths.ensures c.if-wrong_lengths.true in
    sym (after-plan _ _ accepted ∙ rw lengths refl)

pub returns-then-any_reading_beyond : goal.returns-then-any_reading_beyond
unfolding table_refused
returns-then-any_reading_beyond c =
    let accepted : plan_refused c.args.p ≡ 0 = sym c.in_ok-check.ensures.number in
    let lengths = is c.wrong_lengths.ensures c.if-wrong_lengths.false in
    let readings = is c.any_reading_beyond.ensures c.if-any_reading_beyond.true in
    sym (after-plan _ _ accepted ∙ rw (lengths, readings) refl)

pub returns-then-bad_marks : goal.returns-then-bad_marks
unfolding table_refused
returns-then-bad_marks c =
    let accepted : plan_refused c.args.p ≡ 0 = sym c.in_ok-check.ensures.number in
    let lengths = is c.wrong_lengths.ensures c.if-wrong_lengths.false in
    let readings = is c.any_reading_beyond.ensures c.if-any_reading_beyond.false in
    let marks = is c.bad_marks.ensures c.if-bad_marks.true in
    sym (after-plan _ _ accepted ∙ rw (lengths, readings, marks) refl)

pub returns : goal.returns
unfolding table_refused
returns c =
    let accepted : plan_refused c.args.p ≡ 0 = sym c.in_ok-check.ensures.number in
    let lengths = is c.wrong_lengths.ensures c.if-wrong_lengths.false in
    let readings = is c.any_reading_beyond.ensures c.if-any_reading_beyond.false in
    let marks = is c.bad_marks.ensures c.if-bad_marks.false in
    sym (after-plan _ _ accepted ∙ rw (lengths, readings, marks) refl)
