use Rattle.std.proofs.Common.{◌*◌, ◌<◌, length, ap, arith}
use Rattle.algebra.proofs.Laws.Parts.{making-all, as_long, room}
use Rattle.passes.proofs.Passed.{passing-none, passing-more}
use Rattle.passes.proofs.stretches.stretches_over.Goals as goal

pub loop-start-init : goal.loop-start-init
loop-start-init g c = passing-none c.requires

pub slice_bounds-pass_sets-end : goal.slice_bounds-pass_sets-end
slice_bounds-pass_sets-end g c =
    let more : c.loop-start.start < length c.loop-start.column = rw c.loop-start.auto.column c.loop-start-test.true in
    omega (arith, room c.loop-start.invariant more, ap (λ n. n * c.args.spacing) c.LEVELS.ensures)

pub loop-start-preserved : goal.loop-start-preserved
loop-start-preserved g c =
    let more : c.loop-start.start < length c.loop-start.column = rw c.loop-start.auto.column c.loop-start-test.true in
    rw c.LEVELS.ensures (passing-more c.requires c.loop-start.invariant more _ (rw c.LEVELS.ensures at c.pass_sets.ensures))

pub returns-2 : goal.returns-2
returns-2 g c =
    let more : c.loop-start.start < length c.loop-start.column = rw c.loop-start.auto.column c.loop-start-test.true in
    let all = passing-more c.requires c.loop-start.invariant more _ (rw c.LEVELS.ensures at c.pass_sets.ensures) in
    rw c.LEVELS.ensures (making-all all (omega (arith, as_long all, ap (λ n. n * c.args.spacing) c.LEVELS.ensures)))
