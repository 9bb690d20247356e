use native.Mathlib.Omega.{arith}
use Rattle.blocks.proofs.Added.{sum_fits, sum-held}
use Rattle.blocks.proofs.amounts.add.Goals as goal

pub offset_bounds-sums-block : goal.offset_bounds-sums-block
offset_bounds-sums-block c = omega (arith, c.requires.there)

pub slice_copy_out-sums : goal.slice_copy_out-sums
slice_copy_out-sums c = omega (arith, c.requires.there, c.requires.three)

pub overflow_add-sums : goal.overflow_add-sums
overflow_add-sums c = sum_fits c.requires

pub bounds-sums-block : goal.bounds-sums-block
bounds-sums-block c = omega (arith, c.requires.there, c.requires.three)

pub returns : goal.returns
returns c = sum-held c.requires
