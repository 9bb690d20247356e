use Rattle.std.proofs.Common.{◌≡◌, rules, sym}
use Rattle.std.specs.Prelude.{Err}
use Rattle.algebra.specs.Laws.Tests.{is}
use Rattle.heads.proofs.Judging.{bad, by-plan, by-needless, accepted, plan-is}
use Rattle.heads.proofs.refusals.read_head.Goals as goal

pub returns-then-bad_fields_with-clause-number : goal.returns-then-bad_fields_with-clause-number
returns-then-bad_fields_with-clause-number c = bad _ (is c.bad_fields_with.ensures c.if-bad_fields_with.true)

pub returns-in_err-check-clause-number : goal.returns-in_err-check-clause-number
returns-in_err-check-clause-number c =
    let first : c.from_residual.result ≡ Err c.in_err-check.field-0.0 = search rules in
    rw first (by-plan _ c.plan_in-p.ensures (is c.bad_fields_with.ensures c.if-bad_fields_with.false) _ c.in_err-check.ensures.number)

pub returns-then-needless_repeats-clause-number : goal.returns-then-needless_repeats-clause-number
returns-then-needless_repeats-clause-number c =
    let fine = is c.bad_fields_with.ensures c.if-bad_fields_with.false in
    by-needless _ c.plan_in-p.ensures fine (sym c.in_ok-check.ensures.number) (is c.needless_repeats.ensures c.if-needless_repeats.true)

pub returns-clause-number : goal.returns-clause-number
returns-clause-number c =
    let fine = is c.bad_fields_with.ensures c.if-bad_fields_with.false in
    accepted _ c.plan_in-p.ensures fine (sym c.in_ok-check.ensures.number) (is c.needless_repeats.ensures c.if-needless_repeats.false)

pub returns-clause-plan : goal.returns-clause-plan
returns-clause-plan c = plan-is _ c.plan_in-p.ensures (sym c.in_ok-check.ensures.number)
