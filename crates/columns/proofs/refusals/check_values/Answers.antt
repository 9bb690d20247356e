use Rattle.std.proofs.Common.{◌≡◌, rules, refl, sym, ◌∙◌, length}
use Rattle.std.specs.Prelude.{Err}
use Rattle.algebra.specs.Laws.Tests.{is}
use Rattle.plan.proofs.Laws.Answers.{number_some}
use Rattle.columns.specs.Refusals.{columns_refused}
use Rattle.columns.specs.Laws.Lengths.{by_runs, by_lengths, by-rest}
use Rattle.columns.proofs.refusals.check_values.Goals as goal

pub returns-in_err-check_lengths : goal.returns-in_err-check_lengths
unfolding columns_refused
returns-in_err-check_lengths c =
    let first : c.from_residual.result ≡ Err c.in_err-check_lengths.field-0.0 = search rules in
    rw first (by_lengths _ _ _ (by_runs c.args.p (length c.args.from.now) (length c.args.to.now) c.in_err-check_lengths.ensures c.runs.ensures) (number_some _))

pub returns-then-any_value_beyond : goal.returns-then-any_value_beyond
unfolding columns_refused
returns-then-any_value_beyond c =
    let lengths = sym (by_runs c.args.p (length c.args.from.now) (length c.args.to.now) c.in_ok-check_lengths.ensures c.runs.ensures) in
    sym (by-rest _ _ _ lengths ∙ rw (is c.any_value_beyond.ensures c.if-any_value_beyond.true) refl)

pub returns : goal.returns
unfolding columns_refused
returns c =
    let lengths = sym (by_runs c.args.p (length c.args.from.now) (length c.args.to.now) c.in_ok-check_lengths.ensures c.runs.ensures) in
    sym (by-rest _ _ _ lengths ∙ rw (is c.any_value_beyond.ensures c.if-any_value_beyond.false) refl)
