use Rattle.std.proofs.Common.{◌≡◌, rules, refl, sym, ◌∙◌, length}
use Rattle.std.specs.Prelude.{Err}
use Rattle.algebra.specs.Laws.Tests.{is}
use Rattle.plan.proofs.Laws.Answers.{number_some}
use Rattle.columns.specs.Refusals.{readings_refused}
use Rattle.columns.specs.Laws.Lengths.{by-readings, by_lengths, by-rest}
use Rattle.columns.proofs.refusals.check_readings.Goals as goal

pub returns-in_err-check_lengths : goal.returns-in_err-check_lengths
unfolding readings_refused
returns-in_err-check_lengths c =
    let first : c.from_residual.result ≡ Err c.in_err-check_lengths.field-0.0 = search rules in
    rw first (by_lengths _ _ _ (by-readings c.args.p (length c.args.readings.now) (length c.args.totals.now) c.in_err-check_lengths.ensures c.reading_count.ensures) (number_some _))

pub returns-then-any_reading_beyond : goal.returns-then-any_reading_beyond
unfolding readings_refused
returns-then-any_reading_beyond c =
    let lengths = sym (by-readings c.args.p (length c.args.readings.now) (length c.args.totals.now) c.in_ok-check_lengths.ensures c.reading_count.ensures) in
    sym (by-rest _ _ _ lengths ∙ rw (is c.any_reading_beyond.ensures c.if-any_reading_beyond.true) refl)

pub returns : goal.returns
unfolding readings_refused
returns c =
    let lengths = sym (by-readings c.args.p (length c.args.readings.now) (length c.args.totals.now) c.in_ok-check_lengths.ensures c.reading_count.ensures) in
    sym (by-rest _ _ _ lengths ∙ rw (is c.any_reading_beyond.ensures c.if-any_reading_beyond.false) refl)
