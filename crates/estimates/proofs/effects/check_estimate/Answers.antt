use Rattle.std.proofs.Common.{◌≡◌, rules, refl, sym}
use Rattle.std.specs.Prelude.{Err}
use mir.Facts.{to_z-of_z}
use Rattle.algebra.specs.Laws.Tests.{is}
use Rattle.plan.specs.Check.{plan_refused}
use Rattle.plan.proofs.Laws.Answers.{plan_stops, after-plan}
use Rattle.plan.proofs.Laws.Sizes.{two-levels}
use Rattle.estimates.specs.Estimate.{estimate_refused}
use Rattle.estimates.proofs.Laws.Given.{estimate-two}
use Rattle.estimates.proofs.effects.check_estimate.Goals as goal

pub returns-in_err-check : goal.returns-in_err-check
unfolding estimate_refused
returns-in_err-check c =
    let first : c.from_residual.result ≡ Err c.in_err-check.field-0.0 = search rules in
    rw first (plan_stops _ _ _ c.in_err-check.ensures.number)

pub returns-then-p-eq3 : goal.returns-then-p-eq3
unfolding estimate_refused
returns-then-p-eq3 c =
    let accepted : plan_refused c.args.p ≡ 0 = sym c.in_ok-check.ensures.number in
    rw (after-plan _ _ accepted, c.if-p-eq3.true) refl

pub returns-then-has_beyond : goal.returns-then-has_beyond
returns-then-has_beyond c =
    let accepted : plan_refused c.args.p ≡ 0 = sym c.in_ok-check.ensures.number in
    rw (estimate-two _ _ _ accepted c.if-p-eq3.false, is c.has_beyond.ensures c.if-has_beyond.true) refl

pub total_limit-requires : goal.total_limit-requires
total_limit-requires c =
    let accepted : plan_refused c.args.p ≡ 0 = sym c.in_ok-check.ensures.number in
    (accepted, two-levels _ accepted c.if-p-eq3.false)

pub returns-then-is_beyond : goal.returns-then-is_beyond
returns-then-is_beyond c =
    let accepted : plan_refused c.args.p ≡ 0 = sym c.in_ok-check.ensures.number in
    let judged = rw (to_z-of_z c.ranges.total, c.total_limit.ensures) at c.is_beyond.ensures in
    rw (estimate-two _ _ _ accepted c.if-p-eq3.false, is c.has_beyond.ensures c.if-has_beyond.false, is judged c.if-is_beyond.true) refl

pub returns : goal.returns
returns c =
    let accepted : plan_refused c.args.p ≡ 0 = sym c.in_ok-check.ensures.number in
    let judged = rw (to_z-of_z c.ranges.total, c.total_limit.ensures) at c.is_beyond.ensures in
    rw (estimate-two _ _ _ accepted c.if-p-eq3.false, is c.has_beyond.ensures c.if-has_beyond.false, is judged c.if-is_beyond.false) refl
