use Rattle.algebra.specs.Laws.Parts.{Making}
use Rattle.contrasts.proofs.Laws.Both.{both_over}
use Rattle.levels.proofs.walks.put_first.Given as goal

abbrev pub invariant-loop-start : goal.invariant-loop-start
invariant-loop-start g l = Making g.L.Level.SET (both_over 1 g.L.Level.factor l.readings) l.initial.column l.start l.column
