use Rattle.contrasts.proofs.Laws.Levels.{the-three}
use Rattle.passes.proofs.stretches.pass_over.Goals as goal

pub column_over-requires : goal.column_over-requires
column_over-requires c = rw c.if-levels-eq2.true at c.requires

pub column_over-requires-else-levels-eq2 : goal.column_over-requires-else-levels-eq2
column_over-requires-else-levels-eq2 c =
    let pre = c.requires in
    rw (the-three _ pre.kind c.if-levels-eq2.false) at pre
