use Rattle.repeats.proofs.Added.{Adding}
use Rattle.repeats.proofs.sums.run_sum.Given as goal

abbrev pub invariant-loop-reading : goal.invariant-loop-reading
invariant-loop-reading l = Adding l.repeats l.run l.readings l.reading-index l.sum
