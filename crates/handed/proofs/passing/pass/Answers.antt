use Rattle.heads.specs.Laws.Called.{left_off}
use Rattle.handed.proofs.passing.pass.Goals as goal

pub returns-in_err-p-clause-column_after : goal.returns-in_err-p-clause-column_after
returns-in_err-p-clause-column_after c = left_off _ _ c.in_err-p.ensures.number _ _
