use Rattle.steps.proofs.Worked.{Stepped}
use Rattle.steps.proofs.sets.step_three.Given as goal

abbrev pub invariant-loop-i : goal.invariant-loop-i
invariant-loop-i l = Stepped 3 l.sets l.from l.initial.to l.i l.to
