use Rattle.levels.proofs.FourTurns.{Worked}
use Rattle.levels.proofs.fours.TwoLevel.work_sets.Given as goal

abbrev pub invariant-loop-i : goal.invariant-loop-i
invariant-loop-i l = Worked l.spacing l.initial.part l.i l.part
