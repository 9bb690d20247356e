use Rattle.rows.proofs.Putting.{Marking}
use Rattle.rows.proofs.kinds_of_rows.put_marks.Given as goal

abbrev pub invariant-loop-row : goal.invariant-loop-row
invariant-loop-row l = Marking l.marks l.initial.kinds l.row l.kinds
