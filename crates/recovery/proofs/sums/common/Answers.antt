use mathlib.Core.Path.{refl}
use Rattle.contrasts.proofs.Factors.{two, three}
use Rattle.contrasts.proofs.Laws.Levels.{as-two, as-three}
use Rattle.recovery.proofs.sums.common.Goals as goal

pub returns-then-levels-eq2 : goal.returns-then-levels-eq2
unfolding two three
returns-then-levels-eq2 c = rw (as-two _ c.if-levels-eq2.true) refl

pub returns-else-levels-eq2 : goal.returns-else-levels-eq2
unfolding two three
returns-else-levels-eq2 c = rw (as-three _ c.if-levels-eq2.false) refl
