use Rattle.contrasts.proofs.Laws.Levels.{the-three}
use Rattle.passes.proofs.totals.form_totals.Goals as goal

pub totals-requires : goal.totals-requires
totals-requires c = rw c.if-levels-eq2.true at c.requires

pub totals-requires-else-levels-eq2 : goal.totals-requires-else-levels-eq2
totals-requires-else-levels-eq2 c =
    let pre = c.requires in
    rw (the-three _ pre.kind c.if-levels-eq2.false) at pre
