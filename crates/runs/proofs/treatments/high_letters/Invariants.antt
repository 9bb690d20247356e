use Prim.Native.Nat.{◌+◌, ◌-◌}
use lib.ListN.{length}
use Rattle.algebra.specs.Laws.Gathered.{Gathered}
use Rattle.runs.specs.Run.{high_in}
use Rattle.runs.proofs.treatments.high_letters.Given as goal

abbrev pub invariant-loop-j : goal.invariant-loop-j
invariant-loop-j l = Gathered (high_in l.k l.words l.signs l.run) (l.k + length l.words) (l.k + l.j) l.high
