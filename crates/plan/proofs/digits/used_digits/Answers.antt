use native.Mathlib.Omega.{arith}
use Rattle.plan.proofs.Laws.Digits.{counting, one-counted, counted}
use Rattle.plan.proofs.digits.used_digits.Goals as goal

pub loop-i-init : goal.loop-i-init
loop-i-init c = counting _ _

pub overflow_add-used : goal.overflow_add-used
overflow_add-used c =
    let inv = c.loop-i.invariant in
    omega (arith, inv.few, c.in_use-used.ensures.1)

pub loop-i-preserved : goal.loop-i-preserved
loop-i-preserved c = one-counted c.loop-i.invariant c.loop-i-test.true c.in_use-used.ensures

pub returns : goal.returns
returns c = counted c.loop-i.invariant c.loop-i-test.false
