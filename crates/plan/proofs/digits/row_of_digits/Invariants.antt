use Rattle.plan.proofs.Laws.Digits.{Collecting}
use Rattle.plan.proofs.digits.row_of_digits.Given as goal

abbrev pub invariant-loop-i : goal.invariant-loop-i
invariant-loop-i l = Collecting l.k l.word l.row l.letter l.rest l._i
