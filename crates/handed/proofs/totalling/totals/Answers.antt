use Rattle.heads.specs.Laws.Called.{left_off}
use Rattle.handed.proofs.totalling.totals.Goals as goal

pub returns-in_err-p-clause-totals_after : goal.returns-in_err-p-clause-totals_after
returns-in_err-p-clause-totals_after c = left_off _ _ c.in_err-p.ensures.number _ _
