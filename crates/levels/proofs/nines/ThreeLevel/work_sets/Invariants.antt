use Rattle.levels.proofs.NineTurns.{Worked}
use Rattle.levels.proofs.nines.ThreeLevel.work_sets.Given as goal

abbrev pub invariant-loop-i : goal.invariant-loop-i
invariant-loop-i l = Worked l.spacing l.initial.part l.i l.part
