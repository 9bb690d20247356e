use mathlib.Core.Path.{ap}
use mathlib.Core.Bool.{not}
use borrow.Author.Tests.{ne_eqb}
use Rattle.runs.specs.Run.{high_by}
use Rattle.runs.proofs.treatments.is_high.Goals as goal

pub returns-then-sign-eq0 : goal.returns-then-sign-eq0
unfolding high_by
returns-then-sign-eq0 c = rw c.if-sign-eq0.true c.is_odd-odd.ensures

pub returns-else-sign-eq0 : goal.returns-else-sign-eq0
unfolding high_by
returns-else-sign-eq0 c = rw (ne_eqb _ _ c.if-sign-eq0.false) (ap not c.is_odd-odd.ensures)
