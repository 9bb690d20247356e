use lib.Dec.{lit≤}
use mathlib.Core.Path.{sym, ◌∙◌}
use Prim.Native.Nat.{◌+◌, ◌*◌}
use native.Mathlib.Omega.{arith}
use lib.ListN.{length-set}
use Rattle.algebra.proofs.Laws.Spread.{as_long}
use lib.IntN.{pos}
use Rattle.contrasts.specs.Columns.{read}
use Rattle.contrasts.proofs.Laws.Small.{Mild}
use Rattle.contrasts.proofs.Laws.Sets.{sum_fits, less-fits, all-fits, scaled_fits, without-fits, third-fits}
use Rattle.passes.proofs.Worked.{stretch-begun, stretch-ended, triple, stretch-three}
use Rattle.passes.proofs.stretches.ThreePass.pass_sets.Goals as goal

pub loop-i-init : goal.loop-i-init
loop-i-init c = stretch-begun c.requires

pub overflow_add-j : goal.overflow_add-j
overflow_add-j c = omega (arith, c.requires.whole)

pub overflow_mul-k : goal.overflow_mul-k
overflow_mul-k c = omega (arith, c.requires.whole)

pub overflow_add-k : goal.overflow_add-k
overflow_add-k c = omega (arith, c.requires.whole)

pub offset_bounds-part-i : goal.offset_bounds-part-i
offset_bounds-part-i c = omega (arith, c.requires.whole)

pub slice_copy_out-first : goal.slice_copy_out-first
slice_copy_out-first c = omega (arith, as_long (pos 0) c.loop-i.invariant)

pub offset_bounds-part-j : goal.offset_bounds-part-j
offset_bounds-part-j c = omega (arith, c.requires.whole)

pub slice_copy_out-middle : goal.slice_copy_out-middle
slice_copy_out-middle c = omega (arith, as_long (pos 0) c.loop-i.invariant)

pub offset_bounds-part-k : goal.offset_bounds-part-k
offset_bounds-part-k c = omega (arith, c.requires.whole)

pub slice_copy_out-third : goal.slice_copy_out-third
slice_copy_out-third c = omega (arith, as_long (pos 0) c.loop-i.invariant)

pub overflow_add-part : goal.overflow_add-part
overflow_add-part c =
    let mild : let loop = c.loop-i in
    let h = c.args.spacing in
    Mild (read loop.part loop.i) × Mild (read loop.part (loop.i + h)) × Mild (read loop.part (loop.i + 2 * h)) = triple c.requires c.loop-i.invariant c.loop-i-test.true in
    sum_fits mild.0 mild.1

pub overflow_add-part-in-loop-i : goal.overflow_add-part-in-loop-i
overflow_add-part-in-loop-i c =
    let mild : let loop = c.loop-i in
    let h = c.args.spacing in
    Mild (read loop.part loop.i) × Mild (read loop.part (loop.i + h)) × Mild (read loop.part (loop.i + 2 * h)) = triple c.requires c.loop-i.invariant c.loop-i-test.true in
    all-fits mild.0 mild.1 mild.2

pub offset_bounds-part-i-in-loop-i : goal.offset_bounds-part-i-in-loop-i
offset_bounds-part-i-in-loop-i c = omega (arith, c.requires.whole)

pub bounds-part-i : goal.bounds-part-i
bounds-part-i c = omega (arith, as_long (pos 0) c.loop-i.invariant)

pub overflow_sub-part : goal.overflow_sub-part
overflow_sub-part c =
    let mild : let loop = c.loop-i in
    let h = c.args.spacing in
    Mild (read loop.part loop.i) × Mild (read loop.part (loop.i + h)) × Mild (read loop.part (loop.i + 2 * h)) = triple c.requires c.loop-i.invariant c.loop-i-test.true in
    less-fits mild.0 mild.2

pub offset_bounds-part-j-in-loop-i : goal.offset_bounds-part-j-in-loop-i
offset_bounds-part-j-in-loop-i c = omega (arith, c.requires.whole)

pub bounds-part-j : goal.bounds-part-j
bounds-part-j c = simp length-set (omega (arith, as_long (pos 0) c.loop-i.invariant))

pub overflow_mul-part : goal.overflow_mul-part
overflow_mul-part c =
    let mild : let loop = c.loop-i in
    let h = c.args.spacing in
    Mild (read loop.part loop.i) × Mild (read loop.part (loop.i + h)) × Mild (read loop.part (loop.i + 2 * h)) = triple c.requires c.loop-i.invariant c.loop-i-test.true in
    scaled_fits _ (lit≤ tt) mild.1

pub overflow_sub-part-in-loop-i : goal.overflow_sub-part-in-loop-i
overflow_sub-part-in-loop-i c =
    let mild : let loop = c.loop-i in
    let h = c.args.spacing in
    Mild (read loop.part loop.i) × Mild (read loop.part (loop.i + h)) × Mild (read loop.part (loop.i + 2 * h)) = triple c.requires c.loop-i.invariant c.loop-i-test.true in
    without-fits _ (lit≤ tt) mild.0 mild.1

pub overflow_add-part-in-loop-i-2 : goal.overflow_add-part-in-loop-i-2
overflow_add-part-in-loop-i-2 c =
    let mild : let loop = c.loop-i in
    let h = c.args.spacing in
    Mild (read loop.part loop.i) × Mild (read loop.part (loop.i + h)) × Mild (read loop.part (loop.i + 2 * h)) = triple c.requires c.loop-i.invariant c.loop-i-test.true in
    third-fits _ (lit≤ tt) mild.0 mild.1 mild.2

pub offset_bounds-part-k-in-loop-i : goal.offset_bounds-part-k-in-loop-i
offset_bounds-part-k-in-loop-i c = omega (arith, c.requires.whole)

pub bounds-part-k : goal.bounds-part-k
bounds-part-k c = simp length-set (omega (arith, as_long (pos 0) c.loop-i.invariant))

pub loop-i-preserved : goal.loop-i-preserved
loop-i-preserved c =
    let pre = c.requires in
    let inv = c.loop-i.invariant in
    let inside = c.loop-i-test.true in
    stretch-three pre inv inside

pub shape_of-part : goal.shape_of-part
shape_of-part c = as_long (pos 0) c.loop-i.invariant ∙ sym c.requires.whole

pub returns : goal.returns
returns c = stretch-ended c.requires c.loop-i.invariant c.loop-i-test.false
