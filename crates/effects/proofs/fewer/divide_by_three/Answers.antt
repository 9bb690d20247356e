use Rattle.std.proofs.Common.{arith}
use Rattle.effects.proofs.Divided.{divided-none, divided-more, divided-all}
use Rattle.effects.proofs.fewer.divide_by_three.Goals as goal

pub loop-divisor-init : goal.loop-divisor-init
loop-divisor-init c = divided-none _

pub loop-divisor-preserved : goal.loop-divisor-preserved
loop-divisor-preserved c = divided-more c.loop-divisor.invariant (omega arith)

pub returns : goal.returns
returns c = divided-all c.loop-divisor.invariant (omega arith)
