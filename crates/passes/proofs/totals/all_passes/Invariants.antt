use Rattle.passes.proofs.Formed.{AllPassed}
use Rattle.passes.proofs.totals.all_passes.Given as goal

abbrev pub invariant-loop-factor : goal.invariant-loop-factor
invariant-loop-factor g l = AllPassed g.L.Level.LEVELS l.k l.initial.column l.spacing l._factor l.column
