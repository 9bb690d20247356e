use Rattle.std.proofs.Common.{◌≡◌, refl, sym}
use borrow.Author.Tests.{le-leb, lt-leb}
use Rattle.algebra.specs.Laws.Tests.{is}
use Rattle.plan.specs.Check.{plan_refused}
use Rattle.plan.proofs.Laws.Answers.{after-plan}
use Rattle.yates.specs.Calls.{pass_refused}
use Rattle.columns.specs.Laws.Lengths.{wrong, right}
use Rattle.yates.proofs.calls.check_pass.Goals as goal

pub returns-then-p-factor : goal.returns-then-p-factor
unfolding pass_refused
returns-then-p-factor c =
    let accepted : plan_refused c.args.p ≡ 0 = sym c.in_ok-check.ensures.number in
    rw (after-plan _ _ accepted, le-leb _ _ c.if-p-factor.true) refl

pub returns-then-column-runs : goal.returns-then-column-runs
unfolding pass_refused
returns-then-column-runs c =
    let accepted : plan_refused c.args.p ≡ 0 = sym c.in_ok-check.ensures.number in
    rw (after-plan _ _ accepted, lt-leb _ _ c.if-p-factor.false, wrong _ accepted c.runs.ensures _ c.if-column-runs.true) refl

pub returns-then-any_value_beyond : goal.returns-then-any_value_beyond
unfolding pass_refused
returns-then-any_value_beyond c =
    let accepted : plan_refused c.args.p ≡ 0 = sym c.in_ok-check.ensures.number in
    let long = right _ accepted c.runs.ensures _ c.if-column-runs.false in
    rw (after-plan _ _ accepted, lt-leb _ _ c.if-p-factor.false, long, is c.any_value_beyond.ensures c.if-any_value_beyond.true) refl

pub returns : goal.returns
unfolding pass_refused
returns c =
    let accepted : plan_refused c.args.p ≡ 0 = sym c.in_ok-check.ensures.number in
    let long = right _ accepted c.runs.ensures _ c.if-column-runs.false in
    rw (after-plan _ _ accepted, lt-leb _ _ c.if-p-factor.false, long, is c.any_value_beyond.ensures c.if-any_value_beyond.false) refl
