use Rattle.std.proofs.Common.{arith, refl}
use Rattle.algebra.specs.Laws.Searching.{seen_none, seen_more, seen_all}
use Rattle.rows.specs.Inner.Written.{any_over}
use Rattle.rows.proofs.marks.any_over.Goals as goal

pub loop-mark-init : goal.loop-mark-init
loop-mark-init c = seen_none _ _

pub loop-mark-preserved : goal.loop-mark-preserved
loop-mark-preserved c = seen_more c.loop-mark.invariant (omega arith) refl

pub returns : goal.returns
unfolding any_over
returns c = seen_all c.loop-mark.invariant (omega arith)
