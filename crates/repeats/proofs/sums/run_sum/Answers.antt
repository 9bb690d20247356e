use native.Mathlib.Omega.{arith}
use Rattle.repeats.proofs.Added.{adding-none, adding-more, adding-all}
use Rattle.repeats.proofs.sums.run_sum.Goals as goal

pub loop-reading-init : goal.loop-reading-init
loop-reading-init c = adding-none _ _ _

pub loop-reading-preserved : goal.loop-reading-preserved
loop-reading-preserved c = adding-more c.requires c.loop-reading.invariant c.loop-reading-test.true c.from-sum.ensures (omega arith)

pub returns : goal.returns
returns c = adding-all c.requires c.loop-reading.invariant c.loop-reading-test.false
