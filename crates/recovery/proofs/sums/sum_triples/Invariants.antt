use Rattle.recovery.proofs.Worked.{Stretched}
use Rattle.recovery.proofs.sums.sum_triples.Given as goal

abbrev pub invariant-loop-i : goal.invariant-loop-i
invariant-loop-i l = Stretched l.spacing l.initial.part l.i l.part
