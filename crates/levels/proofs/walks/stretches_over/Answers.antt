use Rattle.std.proofs.Common.{◌*◌, ◌<◌, length, ap, arith}
use Rattle.algebra.proofs.Laws.Parts.{making-all, as_long, room}
use Rattle.contrasts.proofs.Laws.Both.{both-none, one-stretch}
use Rattle.levels.proofs.walks.stretches_over.Goals as goal

pub loop-start-init : goal.loop-start-init
loop-start-init g c = rw c.SET.ensures (both-none g.L.Level.factor c.requires)

pub loop-start-preserved : goal.loop-start-preserved
loop-start-preserved g c =
    let more : c.loop-start.start < length c.loop-start.column = rw c.loop-start.auto.column c.loop-start-test.true in
    rw c.SET.ensures
    (one-stretch g.L.Level.factor c.requires (rw c.SET.ensures at c.loop-start.invariant) more
    (rw g.met.L.Level.own g.met.L.Level.square) _ (rw c.SET.ensures at c.work_sets.ensures))

pub returns-2 : goal.returns-2
returns-2 g c =
    let more : c.loop-start.start < length c.loop-start.column = rw c.loop-start.auto.column c.loop-start-test.true in
    let all = one-stretch g.L.Level.factor c.requires (rw c.SET.ensures at c.loop-start.invariant) more
    (rw g.met.L.Level.own g.met.L.Level.square) _ (rw c.SET.ensures at c.work_sets.ensures) in
    rw c.SET.ensures (making-all all (omega (arith, as_long all, ap (λ n. n * c.args.spacing) c.SET.ensures)))

pub slice_bounds-work_sets-end : goal.slice_bounds-work_sets-end
slice_bounds-work_sets-end g c =
    let more : c.loop-start.start < length c.loop-start.column = rw c.loop-start.auto.column c.loop-start-test.true in
    omega (arith, room c.loop-start.invariant more)
