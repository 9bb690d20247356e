use mathlib.Core.Path.{◌∙◌}
use native.Mathlib.Omega.{arith}
use Rattle.algebra.specs.Laws.Tests.{is}
use Rattle.algebra.specs.Laws.Collected.{collected-none, collected-long, collected-room, collected-pass, collected-skip, collected-all, counted-all}
use Rattle.blockings.proofs.Listing.{fits, room_for, counted-lists, written-lists}
use Rattle.blockings.proofs.calls.write.Goals as goal
use Rattle.blockings.proofs.calls.write.Goals.{then-is_listed, else-is_listed}

pub loop-i-init : goal.loop-i-init
loop-i-init c = collected-none (room_for _ _ c.all_lists-all.ensures.0 _ c.requires.1)

pub overflow_mul-n : goal.overflow_mul-n
overflow_mul-n c = fits _ _ (omega (arith, c.loop-i.invariant.counted.few, c.all_lists-all.ensures.1)) (omega arith)

pub put_at-requires : goal.put_at-requires
put_at-requires c =
    let room = room_for _ _ c.all_lists-all.ensures.0 _ c.requires.1 in
    let more = c.loop-i-test.true in
    (omega arith, omega arith, collected-room room c.loop-i.invariant more (is c.is_listed.ensures c.if-is_listed.true))

pub overflow_add-n : goal.overflow_add-n
overflow_add-n c = omega (arith, c.loop-i.invariant.counted.few)

pub loop-i-preserved : goal.loop-i-preserved
loop-i-preserved c =
    let room = room_for _ _ c.all_lists-all.ensures.0 _ c.requires.1 in
    let more = c.loop-i-test.true in
    elim c.if-is_listed.branch [
      | then-is_listed w ↦ rw w.n-is (collected-pass room c.loop-i.invariant more (is c.is_listed.ensures w.if-is_listed.true) (w.column-is ∙ w.put_at.ensures))
      | else-is_listed w ↦ rw (w.column-is, w.n-is) (collected-skip room c.loop-i.invariant more (is c.is_listed.ensures w.if-is_listed.false))
    ]

pub shape_of-column : goal.shape_of-column
shape_of-column c = collected-long (room_for _ _ c.all_lists-all.ensures.0 _ c.requires.1) c.loop-i.invariant

pub returns : goal.returns
returns c =
    let lists = c.all_lists-all.ensures.0 in
    let room = room_for _ _ lists _ c.requires.1 in
    let end = c.loop-i.invariant in
    record { value = counted-lists _ _ lists (counted-all end.counted c.loop-i-test.false); column_after = written-lists _ _ lists _ (collected-all room end c.loop-i-test.false) }
