use mathlib.Core.Path.{refl}
use Rattle.fields.proofs.Walking.{short, cut_short, whole_first}
use Rattle.fields.proofs.walks.FieldsIterator.next.Goals as goal

pub returns-in_default-clause-steps : goal.returns-in_default-clause-steps
returns-in_default-clause-steps c = (short _ c.in_default.len_below, refl)

pub returns-in_err-body-clause-steps : goal.returns-in_err-body-clause-steps
returns-in_err-body-clause-steps c = rw c.from_residual.ensures (cut_short _ c.in-len3-up.len_at_least c.pair.ensures c.in_err-body.ensures.cases, refl)

pub returns-clause-steps : goal.returns-clause-steps
returns-clause-steps c = whole_first _ c.in-len3-up.len_at_least c.pair.ensures c.in_ok-body.ensures.cases
