use Rattle.std.proofs.Common.{◌≡◌, rules}
use Rattle.std.specs.Prelude.{Err}
use Rattle.tables.proofs.Called.{head-stopped, head-goes}
use Rattle.tables.proofs.calls.screen.Goals as goal

pub returns-in_err-p : goal.returns-in_err-p
returns-in_err-p c =
    let first : c.from_residual.result ≡ Err c.in_err-p.field-0.0 = search rules in
    rw first (head-stopped _ _ _ c.in_err-p.ensures.number)

pub returns : goal.returns
returns c = head-goes _ _ c.in_ok-p.ensures.number c.in_ok-p.ensures.plan c.screened.ensures
