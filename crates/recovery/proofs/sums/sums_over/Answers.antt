use mathlib.Core.Path.{refl, sym, ◌∙◌}
use Rattle.contrasts.proofs.Laws.Levels.{the-three, as-two, as-three}
use Rattle.contrasts.proofs.Laws.Undo.{sums-two}
use Rattle.recovery.proofs.sums.sums_over.Goals as goal

pub pass_over-requires : goal.pass_over-requires
pass_over-requires c = rw c.if-levels-eq2.true at c.requires

pub sums_three-requires : goal.sums_three-requires
sums_three-requires c =
    let pre = c.requires in
    rw (the-three _ pre.kind c.if-levels-eq2.false) at pre

pub returns-then-levels-eq2 : goal.returns-then-levels-eq2
returns-then-levels-eq2 c = c.pass_over.ensures ∙ rw (as-two _ c.if-levels-eq2.true) (sym (sums-two _ _))

pub returns-else-levels-eq2 : goal.returns-else-levels-eq2
returns-else-levels-eq2 c = c.sums_three.ensures ∙ rw (as-three _ c.if-levels-eq2.false) refl
