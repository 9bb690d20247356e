use mathlib.Core.Path.{refl, sym, ◌∙◌}
use native.Mathlib.Omega.{arith}
use lib.ListN.{length-set}
use Rattle.algebra.proofs.Laws.Spread.{as_long}
use lib.IntN.{pos}
use Rattle.contrasts.proofs.Laws.Sets.{sum_fits, less-fits}
use Rattle.steps.proofs.Worked.{step-begun, step-ended, mild-from, step-two}
use Rattle.steps.proofs.sets.step_two.Goals as goal

pub loop-i-init : goal.loop-i-init
loop-i-init c = step-begun c.requires

pub overflow_mul-at : goal.overflow_mul-at
overflow_mul-at c = omega (arith, c.requires)

pub offset_bounds-from-at : goal.offset_bounds-from-at
offset_bounds-from-at c = omega (arith, c.requires)

pub bounds-from-at : goal.bounds-from-at
bounds-from-at c = omega (arith, c.requires)

pub overflow_add-second : goal.overflow_add-second
overflow_add-second c = omega (arith, c.requires)

pub offset_bounds-from-at-in-loop-i : goal.offset_bounds-from-at-in-loop-i
offset_bounds-from-at-in-loop-i c = omega (arith, c.requires)

pub bounds-from-at-in-loop-i : goal.bounds-from-at-in-loop-i
bounds-from-at-in-loop-i c = omega (arith, c.requires)

pub overflow_add-j : goal.overflow_add-j
overflow_add-j c = omega (arith, c.requires)

pub overflow_add-to : goal.overflow_add-to
overflow_add-to c =
    let pre = c.requires in
    sum_fits (mild-from pre _) (mild-from pre _)

pub offset_bounds-to-i : goal.offset_bounds-to-i
offset_bounds-to-i c = omega (arith, c.requires)

pub bounds-to-i : goal.bounds-to-i
bounds-to-i c = omega (arith, as_long (pos 0) c.loop-i.invariant)

pub overflow_sub-to : goal.overflow_sub-to
overflow_sub-to c =
    let pre = c.requires in
    less-fits (mild-from pre _) (mild-from pre _)

pub offset_bounds-to-j : goal.offset_bounds-to-j
offset_bounds-to-j c = omega (arith, c.requires)

pub bounds-to-j : goal.bounds-to-j
bounds-to-j c = simp length-set (omega (arith, as_long (pos 0) c.loop-i.invariant))

pub loop-i-preserved : goal.loop-i-preserved
loop-i-preserved c =
    let pre = c.requires in
    let inv = c.loop-i.invariant in
    step-two pre inv c.loop-i-test.true

pub shape_of-to : goal.shape_of-to
shape_of-to c = as_long (pos 0) c.loop-i.invariant ∙ sym c.requires.same

pub returns : goal.returns
returns c =
    let pre = c.requires in
    step-ended pre c.loop-i.invariant c.loop-i-test.false ∙ rw pre.whole refl
