use native.Mathlib.Omega.{arith}
use Rattle.algebra.proofs.Laws.Machine.{kept}
use Rattle.contrasts.specs.Columns.{read}
use Rattle.columns.proofs.Sizes.{gathered, gather, all-gathered}
use Rattle.columns.proofs.bits.all_bits.Goals as goal

pub loop-value-init : goal.loop-value-init
loop-value-init c = gathered _

pub loop-value-preserved : goal.loop-value-preserved
loop-value-preserved c =
    gather c.loop-value.invariant c.loop-value-test.true (kept (read c.args.column.now c.loop-value.value-index) (omega arith)) c.magnitude-bits.ensures

pub returns : goal.returns
returns c = all-gathered c.loop-value.invariant c.loop-value-test.false
