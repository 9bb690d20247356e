use Rattle.std.proofs.Common.{◌≡◌, true, rules, arith, ap, ◌+◌}
use Rattle.std.specs.Prelude.{Err}
use Rattle.contrasts.specs.Limits.{is_repeats}
use Rattle.plan.proofs.Laws.Accepted.{accepted}
use Rattle.estimates.proofs.Laws.Given.{exactly-given}
use Rattle.estimates.proofs.Answers.{stopped, nothing_refused, ready, answered}
use Rattle.estimates.proofs.effects.estimate.Goals as goal

pub returns-in_err-check_estimate : goal.returns-in_err-check_estimate
returns-in_err-check_estimate c =
    let first : c.from_residual.result ≡ Err c.in_err-check_estimate.field-0.0 = search rules in
    let e = stopped _ _ c.ranges.total _ c.in_err-check_estimate.ensures in
    rw first (record { result_value = e; exactly_given = exactly-given _ _ _ e })

pub exponent-requires : goal.exponent-requires
unfolding is_repeats
exponent-requires c =
    let made = accepted _ (nothing_refused _ _ c.ranges.total c.in_ok-check_estimate.ensures).plan in
    let as_often : is_repeats c.args.p.repeats ≡ true = made.repeats.0 in
    search rules

pub overflow_add-power : goal.overflow_add-power
overflow_add-power c = omega (arith, c.exponent.ensures.1)

pub value-requires : goal.value-requires
value-requires c =
    let power = ap (λ j. c.args.p.k + j) c.exponent.ensures.0 in
    ready _ _ c.ranges.total c.in_ok-check_estimate.ensures power

pub returns : goal.returns
returns c =
    let power = ap (λ j. c.args.p.k + j) c.exponent.ensures.0 in
    let e = answered _ _ c.ranges.total c.in_ok-check_estimate.ensures power c.confounded-lost.ensures c.value.ensures in
    record { result_value = e; exactly_given = exactly-given _ _ _ e }
