use mathlib.Core.Path.{refl}
use native.Mathlib.Omega.{arith}
use Rattle.algebra.specs.Laws.Fill.{filled_none, filled_more, filled-long, filled-all}
use Rattle.blockings.proofs.lists.put_list.Goals as goal

pub loop-place-init : goal.loop-place-init
loop-place-init c = filled_none 0 _ _ _ _ refl (λ j h. refl)

pub word_at-requires : goal.word_at-requires
word_at-requires c = omega (arith, filled-long 0 c.loop-place.invariant)

pub loop-place-preserved : goal.loop-place-preserved
loop-place-preserved c =
    let turn = c.loop-place in
    let args = c.args in
    let long = filled-long 0 turn.invariant in
    filled_more 0 turn.invariant (omega (arith, long)) c.word_at.ensures

pub shape_of-places : goal.shape_of-places
shape_of-places c = filled-long 0 c.loop-place.invariant

pub returns : goal.returns
returns c = filled-all 0 c.loop-place.invariant (omega (arith, filled-long 0 c.loop-place.invariant))
