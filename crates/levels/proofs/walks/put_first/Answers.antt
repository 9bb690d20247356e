use Rattle.std.proofs.Common.{◌<◌, length, arith}
use Rattle.algebra.proofs.Laws.Parts.{making-all, as_long}
use Rattle.contrasts.proofs.Laws.Both.{first-none, first-room, one-first}
use Rattle.levels.proofs.walks.put_first.Goals as goal

pub loop-start-init : goal.loop-start-init
loop-start-init g c = first-none g.L.Level.factor c.requires

pub slice_bounds-put_set-end : goal.slice_bounds-put_set-end
slice_bounds-put_set-end g c =
    let more : c.loop-start.start < length c.loop-start.column = rw c.loop-start.auto.column c.loop-start-test.true in
    omega (arith, c.SET-set.ensures, first-room g.L.Level.factor c.requires c.loop-start.invariant more)

pub loop-start-preserved : goal.loop-start-preserved
loop-start-preserved g c =
    let more : c.loop-start.start < length c.loop-start.column = rw c.loop-start.auto.column c.loop-start-test.true in
    rw c.SET-set.ensures
    (one-first g.L.Level.factor c.requires c.loop-start.invariant more
    (rw g.met.L.Level.own g.met.L.Level.square) _ (rw c.SET-set.ensures at c.put_set.ensures))

pub returns-2 : goal.returns-2
returns-2 g c =
    let more : c.loop-start.start < length c.loop-start.column = rw c.loop-start.auto.column c.loop-start-test.true in
    let all = one-first g.L.Level.factor c.requires c.loop-start.invariant more
    (rw g.met.L.Level.own g.met.L.Level.square) _ (rw c.SET-set.ensures at c.put_set.ensures) in
    rw c.SET-set.ensures (making-all all (omega (arith, as_long all, c.SET-set.ensures)))
