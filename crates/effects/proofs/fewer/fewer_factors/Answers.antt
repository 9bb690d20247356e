use Rattle.std.proofs.Common.{◌≡◌, ◌-◌, arith}
use Rattle.effects.proofs.Divided.{missing-none, missing-more, missing-all}
use Rattle.effects.proofs.fewer.fewer_factors.Goals as goal

pub loop-init : goal.loop-init
loop-init c =
    let none : 6 - (c.args.k - c.args.k) ≡ 6 = omega arith in
    rw none (missing-none _ c.six_factors-divisors.ensures)

pub loop-preserved : goal.loop-preserved
loop-preserved c = missing-more c.loop.invariant (omega arith) (omega arith) c.divide_by_three.ensures

pub returns : goal.returns
returns c = missing-all c.loop.invariant (omega arith)
