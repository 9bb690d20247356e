use Rattle.std.proofs.Common.{arith}
use Rattle.passes.proofs.Formed.{all_none, all-ready, spacing-fits, all_more, all_done}
use Rattle.passes.proofs.totals.all_passes.Goals as goal

pub loop-factor-init : goal.loop-factor-init
loop-factor-init g c = all_none c.requires

pub column_over-requires : goal.column_over-requires
column_over-requires g c = all-ready c.requires c.loop-factor.invariant c.loop-factor-test.true

pub overflow_mul-spacing : goal.overflow_mul-spacing
overflow_mul-spacing g c =
    let fits = spacing-fits c.requires c.loop-factor.invariant c.loop-factor-test.true in
    rw c.LEVELS-spacing.ensures (omega (arith, fits))

pub loop-factor-preserved : goal.loop-factor-preserved
loop-factor-preserved g c =
    rw c.LEVELS-spacing.ensures (all_more c.requires c.loop-factor.invariant c.loop-factor-test.true c.column_over.ensures)

pub returns : goal.returns
returns g c = all_done c.requires c.loop-factor.invariant c.loop-factor-test.false
