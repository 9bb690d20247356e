use Rattle.effects.proofs.Rowed.{RowsThree}
use Rattle.effects.proofs.letters.put_rows_of_three.Given as goal

abbrev pub invariant-loop-q : goal.invariant-loop-q
invariant-loop-q l = RowsThree l.n l.q l.rows
