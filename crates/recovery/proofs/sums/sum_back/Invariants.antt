use Rattle.recovery.proofs.Summed.{AllSummed}
use Rattle.recovery.proofs.sums.sum_back.Given as goal

abbrev pub invariant-loop-i : goal.invariant-loop-i
invariant-loop-i l = AllSummed l.levels l.k l.initial.column l.denominator l.spacing l._i l.column
