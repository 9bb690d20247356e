use lib.Dec.{lit≤}
use mathlib.Core.Path.{refl, sym, ◌∙◌}
use native.Mathlib.Omega.{arith}
use lib.ListN.{length-set}
use Rattle.algebra.proofs.Laws.Spread.{as_long}
use lib.IntN.{pos}
use Rattle.contrasts.proofs.Laws.Sets.{sum_fits, less-fits, all-fits, scaled_fits, without-fits, third-fits}
use Rattle.steps.proofs.Worked.{step-begun, step-ended, mild-from, step-three}
use Rattle.steps.proofs.sets.step_three.Goals as goal

pub loop-i-init : goal.loop-i-init
loop-i-init c = step-begun c.requires

pub overflow_mul-at : goal.overflow_mul-at
overflow_mul-at c = omega (arith, c.requires)

pub offset_bounds-from-at : goal.offset_bounds-from-at
offset_bounds-from-at c = omega (arith, c.requires)

pub bounds-from-at : goal.bounds-from-at
bounds-from-at c = omega (arith, c.requires)

pub overflow_add-middle : goal.overflow_add-middle
overflow_add-middle c = omega (arith, c.requires)

pub offset_bounds-from-at-in-loop-i : goal.offset_bounds-from-at-in-loop-i
offset_bounds-from-at-in-loop-i c = omega (arith, c.requires)

pub bounds-from-at-in-loop-i : goal.bounds-from-at-in-loop-i
bounds-from-at-in-loop-i c = omega (arith, c.requires)

pub overflow_add-third : goal.overflow_add-third
overflow_add-third c = omega (arith, c.requires)

pub offset_bounds-from-at-in-loop-i-2 : goal.offset_bounds-from-at-in-loop-i-2
offset_bounds-from-at-in-loop-i-2 c = omega (arith, c.requires)

pub bounds-from-at-in-loop-i-2 : goal.bounds-from-at-in-loop-i-2
bounds-from-at-in-loop-i-2 c = omega (arith, c.requires)

pub overflow_add-j : goal.overflow_add-j
overflow_add-j c = omega (arith, c.requires)

pub overflow_mul-k : goal.overflow_mul-k
overflow_mul-k c = omega (arith, c.requires)

pub overflow_add-k : goal.overflow_add-k
overflow_add-k c = omega (arith, c.requires)

pub overflow_add-to : goal.overflow_add-to
overflow_add-to c =
    let pre = c.requires in
    sum_fits (mild-from pre _) (mild-from pre _)

pub overflow_add-to-in-loop-i : goal.overflow_add-to-in-loop-i
overflow_add-to-in-loop-i c =
    let pre = c.requires in
    all-fits (mild-from pre _) (mild-from pre _) (mild-from pre _)

pub offset_bounds-to-i : goal.offset_bounds-to-i
offset_bounds-to-i c = omega (arith, c.requires)

pub bounds-to-i : goal.bounds-to-i
bounds-to-i c = omega (arith, as_long (pos 0) c.loop-i.invariant)

pub overflow_sub-to : goal.overflow_sub-to
overflow_sub-to c =
    let pre = c.requires in
    less-fits (mild-from pre _) (mild-from pre _)

pub offset_bounds-to-j : goal.offset_bounds-to-j
offset_bounds-to-j c = omega (arith, c.requires)

pub bounds-to-j : goal.bounds-to-j
bounds-to-j c = simp length-set (omega (arith, as_long (pos 0) c.loop-i.invariant))

pub overflow_mul-to : goal.overflow_mul-to
overflow_mul-to c = scaled_fits _ (lit≤ tt) (mild-from c.requires _)

pub overflow_sub-to-in-loop-i : goal.overflow_sub-to-in-loop-i
overflow_sub-to-in-loop-i c =
    let pre = c.requires in
    without-fits _ (lit≤ tt) (mild-from pre _) (mild-from pre _)

pub overflow_add-to-in-loop-i-2 : goal.overflow_add-to-in-loop-i-2
overflow_add-to-in-loop-i-2 c =
    let pre = c.requires in
    third-fits _ (lit≤ tt) (mild-from pre _) (mild-from pre _) (mild-from pre _)

pub offset_bounds-to-k : goal.offset_bounds-to-k
offset_bounds-to-k c = omega (arith, c.requires)

pub bounds-to-k : goal.bounds-to-k
bounds-to-k c = simp length-set (omega (arith, as_long (pos 0) c.loop-i.invariant))

pub loop-i-preserved : goal.loop-i-preserved
loop-i-preserved c =
    let pre = c.requires in
    let inv = c.loop-i.invariant in
    let inside = c.loop-i-test.true in
    step-three pre inv inside

pub shape_of-to : goal.shape_of-to
shape_of-to c = as_long (pos 0) c.loop-i.invariant ∙ sym c.requires.same

pub returns : goal.returns
returns c =
    let pre = c.requires in
    step-ended pre c.loop-i.invariant c.loop-i-test.false ∙ rw pre.whole refl
