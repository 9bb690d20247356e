use Rattle.recovery.proofs.Summed.{Summing}
use Rattle.recovery.proofs.sums.sums_three.Given as goal

abbrev pub invariant-loop-start : goal.invariant-loop-start
invariant-loop-start l = Summing l.spacing l.initial.column l.start l.column
