use mathlib.Core.Path.{◌∙◌}
use native.Mathlib.Omega.{arith}
use Rattle.algebra.proofs.Laws.Machine.{kept}
use Rattle.anova.proofs.Rounded.{left-none, left-sets, left-some, left-more, left-all}
use Rattle.anova.proofs.rounds.all_rounds.Goals as goal

pub loop-i-init : goal.loop-i-init
loop-i-init c = left-none c.requires

pub round-requires : goal.round-requires
round-requires c =
    let pre = c.requires in
    left-sets pre c.loop-i.invariant c.loop-i-test.true

pub loop-i-preserved : goal.loop-i-preserved
loop-i-preserved c =
    let pre = c.requires in
    let inv = c.loop-i.invariant in
    let inside = c.loop-i-test.true in
    left-more pre inv inside c.round.ensures

pub slice_copy_out-result : goal.slice_copy_out-result
slice_copy_out-result c = omega (arith, left-some c.requires c.loop-i.invariant)

pub shape_of-column : goal.shape_of-column
shape_of-column c = c.loop-i.invariant.long

pub returns : goal.returns
returns c =
    let pre = c.requires in
    let inv = c.loop-i.invariant in record { value = kept _ c.result-1.given ∙ left-all pre inv c.loop-i-test.false; column_len_unchanged = inv.long }
