use Rattle.recovery.proofs.Divided.{dividing-none, dividing-all, quotient-asks, product-size, divided}
use Rattle.recovery.proofs.quotients.divide.Goals as goal

pub loop-sum-init : goal.loop-sum-init
loop-sum-init c = dividing-none _ _ _

pub quotient-reading-requires : goal.quotient-reading-requires
quotient-reading-requires c = quotient-asks c.requires c.loop-sum.invariant c.loop-sum-test.true

pub is_missed-any-requires : goal.is_missed-any-requires
is_missed-any-requires c = product-size c.requires c.loop-sum.invariant c.loop-sum-test.true c.quotient-reading.ensures

pub loop-sum-preserved : goal.loop-sum-preserved
loop-sum-preserved c =
    divided c.requires c.loop-sum.invariant c.loop-sum-test.true c.quotient-reading.ensures c.is_missed-any.ensures

pub returns : goal.returns
returns c = let all = dividing-all c.loop-sum.invariant c.loop-sum-test.false in record { value = all.0; column_after = all.1 }
