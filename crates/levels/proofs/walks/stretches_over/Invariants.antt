use Rattle.algebra.specs.Laws.Parts.{Making}
use Rattle.contrasts.proofs.Laws.Both.{both_over}
use Rattle.levels.proofs.walks.stretches_over.Given as goal

abbrev pub invariant-loop-start : goal.invariant-loop-start
invariant-loop-start g l = Making l.width (both_over l.spacing g.L.Level.factor l.initial.column) l.initial.column l.start l.column
