use mathlib.Core.Path.{sym, ◌∙◌}
use native.Mathlib.Omega.{arith}
use Rattle.walks.proofs.Walked.{threes-none, threes-more, threes-all, three-places, three-long, three-gatherable, three-fits, brings-three}
use Rattle.walks.proofs.three_levels.walk_three.Goals as goal

pub loop-e-init : goal.loop-e-init
loop-e-init c =
    threes-none c.requires

pub overflow_cast-row : goal.overflow_cast-row
overflow_cast-row c =
    omega (arith, c.requires.walkable.row-there c.loop-e.e (omega (arith, c.loop-e-test.true)))

pub bounds-kinds-row : goal.bounds-kinds-row
bounds-kinds-row c =
    omega (arith, c.requires.kinds-long, c.requires.walkable.row-there c.loop-e.e (omega (arith, c.loop-e-test.true)))

pub slice_bounds-bring_three-end : goal.slice_bounds-bring_three-end
slice_bounds-bring_three-end c =
    sym (three-places c.requires c.loop-e.invariant)

pub bring_three-requires : goal.bring_three-requires
bring_three-requires c =
    brings-three c.requires c.loop-e.invariant (omega (arith, c.loop-e-test.true))

pub overflow_add-sum : goal.overflow_add-sum
overflow_add-sum c =
    three-fits c.requires c.loop-e.invariant (omega (arith, c.loop-e-test.true))

pub loop-e-preserved : goal.loop-e-preserved
loop-e-preserved c =
    threes-more c.requires c.loop-e.invariant (omega (arith, c.loop-e-test.true)) (c.bring_three.ensures.rows_after, c.bring_three.ensures.parts_after)

pub slice_bounds-gather-end : goal.slice_bounds-gather-end
slice_bounds-gather-end c =
    sym (three-places c.requires c.loop-e.invariant)

pub gather-requires : goal.gather-requires
gather-requires c =
    three-gatherable c.requires c.loop-e.invariant

pub shape_of-rows : goal.shape_of-rows
shape_of-rows c =
    three-long c.requires c.loop-e.invariant

pub returns : goal.returns
returns c =
    let walked = threes-all c.requires c.loop-e.invariant (omega (arith, c.loop-e-test.false)) in
    record { sums-are = c.gather.ensures ∙ walked.sums-are; rows_are = walked.rows_are }
