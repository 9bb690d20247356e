use Rattle.std.proofs.Common.{arith}
use Rattle.rows.proofs.Putting.{marking-none, marking-more, marking-all}
use Rattle.rows.proofs.kinds_of_rows.put_marks.Goals as goal

pub loop-row-init : goal.loop-row-init
loop-row-init c = marking-none _ _

pub loop-row-preserved : goal.loop-row-preserved
loop-row-preserved c = marking-more c.loop-row.invariant (omega arith) (omega arith) c.kind_by_mark.ensures

pub returns : goal.returns
returns c = marking-all c.loop-row.invariant (omega arith)
