use Rattle.passes.proofs.Passed.{Passing}
use Rattle.passes.proofs.stretches.stretches_over.Given as goal

abbrev pub invariant-loop-start : goal.invariant-loop-start
invariant-loop-start g l = Passing g.L.Level.LEVELS l.spacing l.initial.column l.start l.column
