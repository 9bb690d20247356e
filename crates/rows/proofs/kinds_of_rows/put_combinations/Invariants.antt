use Rattle.rows.proofs.Putting.{Blocking}
use Rattle.rows.proofs.kinds_of_rows.put_combinations.Given as goal

abbrev pub invariant-loop-choice : goal.invariant-loop-choice
invariant-loop-choice l = Blocking l.words l.initial.kinds l.choice l.kinds
