use Rattle.columns.proofs.Sizes.{Gathered}
use Rattle.columns.proofs.bits.all_bits.Given as goal

abbrev pub invariant-loop-value : goal.invariant-loop-value
invariant-loop-value l = Gathered l.column l.bits l.value-index
