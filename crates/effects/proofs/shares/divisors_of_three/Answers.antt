use Rattle.std.proofs.Common.{◌*◌, ap, arith}
use Rattle.effects.proofs.Filling.{singly-none, singly-more, singly-all}
use Rattle.effects.proofs.Shared.{entry, entry-fits, times-fits}
use Rattle.effects.proofs.shares.divisors_of_three.Goals as goal

pub loop-e-init : goal.loop-e-init
loop-e-init c = singly-none _ 1 _

pub overflow_mul-divisors : goal.overflow_mul-divisors
overflow_mul-divisors c =
    let small = entry-fits c.requires.0 c.requires.1 c.loop-e-test.true c.fewer_factors-table.ensures in
    omega (arith, times-fits c.ranges.repeats.fits small)

pub loop-e-preserved : goal.loop-e-preserved
loop-e-preserved c =
    let pre = c.requires in
    singly-more c.loop-e.invariant c.loop-e-test.true (omega arith)
    (ap (λ d. c.args.repeats * d) (entry pre.0 pre.1 c.loop-e-test.true c.fewer_factors-table.ensures))

pub returns : goal.returns
returns c = singly-all c.loop-e.invariant c.loop-e-test.false
