use Rattle.steps.proofs.Worked.{Stepped}
use Rattle.steps.proofs.sets.step_two.Given as goal

abbrev pub invariant-loop-i : goal.invariant-loop-i
invariant-loop-i l = Stepped 2 l.pairs l.from l.initial.to l.i l.to
