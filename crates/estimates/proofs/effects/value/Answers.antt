use mathlib.Core.Path.{refl}
use native.Mathlib.Omega.{arith}
use borrow.Author.Tests.{ne_eqb}
use mir.Facts.{to_z-of_z}
use Rattle.estimates.specs.Estimate.{mean_of, difference_of, value_by}
use Rattle.estimates.proofs.Negation.{handed}
use Rattle.estimates.proofs.effects.value.Goals as goal

pub returns-then-lost : goal.returns-then-lost
unfolding value_by mean_of difference_of
returns-then-lost c = rw c.if-lost.true refl

pub scaled-requires : goal.scaled-requires
unfolding value_by mean_of difference_of
scaled-requires c = rw (to_z-of_z c.ranges.total) c.requires.1

pub returns-then-effect-eq0 : goal.returns-then-effect-eq0
unfolding value_by mean_of difference_of
returns-then-effect-eq0 c =
    let total-fits = c.ranges.total in
    rw (c.if-lost.false, c.if-effect-eq0.true, c.scaled.ensures, to_z-of_z total-fits) refl

pub printed-requires : goal.printed-requires
unfolding value_by mean_of difference_of
printed-requires c = rw (to_z-of_z c.ranges.total) c.requires.1.number

pub scaled-requires-2 : goal.scaled-requires-2
unfolding value_by mean_of difference_of
scaled-requires-2 c =
    let small = c.printed.ensures.1 in
    let pre = c.requires in
    record { number = rw (handed c.printed.result small) small; power = omega (arith, pre.1.power) }

pub returns : goal.returns
unfolding value_by mean_of difference_of
returns c =
    let total-fits = c.ranges.total in
    let kept = c.if-lost.false in
    let not-mean = ne_eqb _ _ c.if-effect-eq0.false in
    let call = c.printed in
    rw (kept, not-mean, c.scaled-2.ensures, handed call.result call.ensures.1, call.ensures.0, to_z-of_z total-fits) refl
