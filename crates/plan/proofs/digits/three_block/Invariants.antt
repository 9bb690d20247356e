use Rattle.plan.proofs.Laws.Digits.{Adding}
use Rattle.plan.proofs.digits.three_block.Given as goal

abbrev pub invariant-loop-i : goal.invariant-loop-i
invariant-loop-i l = Adding l.k l.word l.run l.sum l.digits l.levels l._i
