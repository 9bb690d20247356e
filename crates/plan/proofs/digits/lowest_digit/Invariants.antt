use Rattle.plan.proofs.Laws.Digits.{Unused}
use Rattle.plan.proofs.digits.lowest_digit.Given as goal

abbrev pub invariant-loop-i : goal.invariant-loop-i
invariant-loop-i l = Unused l.k l.word l.rest l._i
