use Rattle.columns.proofs.Sizes.{few_bits}
use Rattle.columns.proofs.scans.any_value_beyond.Goals as goal

pub returns-then-all_bits-lt536870912 : goal.returns-then-all_bits-lt536870912
returns-then-all_bits-lt536870912 c = few_bits _ c.all_bits.ensures c.if-all_bits-lt536870912.true
