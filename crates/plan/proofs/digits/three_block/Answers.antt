use native.Mathlib.Omega.{arith}
use Rattle.plan.proofs.Laws.Digits.{adding, product-few, one-added, added-up}
use Rattle.plan.proofs.digits.three_block.Goals as goal

pub loop-i-init : goal.loop-i-init
loop-i-init c = adding _ _ _

pub overflow_mul-sum : goal.overflow_mul-sum
overflow_mul-sum c = omega (arith, product-few c.loop-i.digits c.loop-i.levels)

pub overflow_add-sum : goal.overflow_add-sum
overflow_add-sum c = omega (arith, c.loop-i.invariant.few, product-few c.loop-i.digits c.loop-i.levels)

pub loop-i-preserved : goal.loop-i-preserved
loop-i-preserved c = one-added c.loop-i.invariant c.loop-i-test.true

pub returns : goal.returns
returns c = added-up c.loop-i.invariant c.loop-i-test.false
