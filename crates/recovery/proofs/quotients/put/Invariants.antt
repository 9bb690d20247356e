use lib.IntN.{pos}
use Rattle.algebra.specs.Laws.Copied.{Copying}
use Rattle.recovery.proofs.quotients.put.Given as goal

abbrev pub invariant-loop-i : goal.invariant-loop-i
invariant-loop-i l = Copying (pos 0) l.column l.initial.readings l.i l.readings
