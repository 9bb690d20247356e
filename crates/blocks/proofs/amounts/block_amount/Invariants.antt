use Rattle.std.proofs.Common.{◌*◌}
use Rattle.blocks.proofs.Added.{Adding}
use Rattle.blocks.proofs.amounts.block_amount.Given as goal

abbrev pub invariant-loop-set : goal.invariant-loop-set
invariant-loop-set l = Adding l.k l.word l.column (3 * l.set) l.sums
