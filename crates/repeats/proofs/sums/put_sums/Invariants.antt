use Rattle.repeats.proofs.Put.{Putting}
use Rattle.repeats.proofs.sums.put_sums.Given as goal

abbrev pub invariant-loop-run : goal.invariant-loop-run
invariant-loop-run l = Putting l.repeats l.readings l.initial.column l.run l.column
