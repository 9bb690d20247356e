use Rattle.std.proofs.Common.{◌<◌, length, arith}
use Rattle.algebra.proofs.Laws.Parts.{making-all, as_long, room}
use Rattle.recovery.proofs.Summed.{summing-none, summing-more}
use Rattle.recovery.proofs.sums.sums_three.Goals as goal

pub loop-start-init : goal.loop-start-init
loop-start-init c = summing-none c.requires

pub slice_bounds-sum_stretch-end : goal.slice_bounds-sum_stretch-end
slice_bounds-sum_stretch-end c =
    let more : c.loop-start.start < length c.loop-start.column = rw c.loop-start.auto.column c.loop-start-test.true in
    omega (arith, room c.loop-start.invariant more)

pub loop-start-preserved : goal.loop-start-preserved
loop-start-preserved c =
    let more : c.loop-start.start < length c.loop-start.column = rw c.loop-start.auto.column c.loop-start-test.true in
    summing-more c.requires c.loop-start.invariant more _ c.sum_stretch.ensures

pub returns-2 : goal.returns-2
returns-2 c =
    let more : c.loop-start.start < length c.loop-start.column = rw c.loop-start.auto.column c.loop-start-test.true in
    let all = summing-more c.requires c.loop-start.invariant more _ c.sum_stretch.ensures in
    making-all all (omega (arith, as_long all))
