use Rattle.plan.proofs.Laws.Digits.{unused, zero-digit, lowest-found, none-used}
use Rattle.plan.proofs.digits.lowest_digit.Goals as goal

pub loop-i-init : goal.loop-i-init
loop-i-init c = unused _ _

pub returns-then-rest-ne0 : goal.returns-then-rest-ne0
returns-then-rest-ne0 c = lowest-found c.loop-i.invariant c.loop-i-test.true c.if-rest-ne0.true

pub loop-i-preserved : goal.loop-i-preserved
loop-i-preserved c = zero-digit c.loop-i.invariant c.loop-i-test.true c.if-rest-ne0.false

pub returns : goal.returns
returns c = none-used c.loop-i.invariant c.loop-i-test.false
