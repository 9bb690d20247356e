use mathlib.Core.Path.{sym, ◌∙◌}
use Prim.Native.Nat.{◌+◌}
use native.Mathlib.Omega.{arith}
use lib.ListN.{length-set}
use Rattle.algebra.proofs.Laws.Spread.{as_long}
use lib.IntN.{pos}
use Rattle.contrasts.specs.Columns.{read}
use Rattle.contrasts.proofs.Laws.Small.{Mild}
use Rattle.contrasts.proofs.Laws.Sets.{sum_fits, less-fits}
use Rattle.passes.proofs.Worked.{stretch-begun, stretch-ended, pair, stretch-two}
use Rattle.passes.proofs.stretches.TwoPass.pass_sets.Goals as goal

pub loop-i-init : goal.loop-i-init
loop-i-init c = stretch-begun c.requires

pub overflow_add-j : goal.overflow_add-j
overflow_add-j c = omega (arith, c.requires.whole)

pub offset_bounds-part-i : goal.offset_bounds-part-i
offset_bounds-part-i c = omega (arith, c.requires.whole)

pub slice_copy_out-first : goal.slice_copy_out-first
slice_copy_out-first c = omega (arith, as_long (pos 0) c.loop-i.invariant)

pub offset_bounds-part-j : goal.offset_bounds-part-j
offset_bounds-part-j c = omega (arith, c.requires.whole)

pub slice_copy_out-second : goal.slice_copy_out-second
slice_copy_out-second c = omega (arith, as_long (pos 0) c.loop-i.invariant)

pub overflow_add-part : goal.overflow_add-part
overflow_add-part c =
    let mild : let loop = c.loop-i in Mild (read loop.part loop.i) × Mild (read loop.part (loop.i + c.args.spacing)) = pair c.requires c.loop-i.invariant c.loop-i-test.true in
    sum_fits mild.0 mild.1

pub offset_bounds-part-i-in-loop-i : goal.offset_bounds-part-i-in-loop-i
offset_bounds-part-i-in-loop-i c = omega (arith, c.requires.whole)

pub bounds-part-i : goal.bounds-part-i
bounds-part-i c = omega (arith, as_long (pos 0) c.loop-i.invariant)

pub overflow_sub-part : goal.overflow_sub-part
overflow_sub-part c =
    let mild : let loop = c.loop-i in Mild (read loop.part loop.i) × Mild (read loop.part (loop.i + c.args.spacing)) = pair c.requires c.loop-i.invariant c.loop-i-test.true in
    search (less-fits, mild.0, mild.1)

pub offset_bounds-part-j-in-loop-i : goal.offset_bounds-part-j-in-loop-i
offset_bounds-part-j-in-loop-i c = omega (arith, c.requires.whole)

pub bounds-part-j : goal.bounds-part-j
bounds-part-j c = simp length-set (omega (arith, as_long (pos 0) c.loop-i.invariant))

pub loop-i-preserved : goal.loop-i-preserved
loop-i-preserved c =
    let pre = c.requires in
    let inv = c.loop-i.invariant in
    stretch-two pre inv c.loop-i-test.true

pub shape_of-part : goal.shape_of-part
shape_of-part c = as_long (pos 0) c.loop-i.invariant ∙ sym c.requires.whole

pub returns : goal.returns
returns c = stretch-ended c.requires c.loop-i.invariant c.loop-i-test.false
