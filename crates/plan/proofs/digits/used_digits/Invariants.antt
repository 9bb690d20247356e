use Rattle.plan.proofs.Laws.Digits.{Counting}
use Rattle.plan.proofs.digits.used_digits.Given as goal

abbrev pub invariant-loop-i : goal.invariant-loop-i
invariant-loop-i l = Counting l.k l.word l.used l.rest l._i
