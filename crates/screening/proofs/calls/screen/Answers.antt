use Rattle.std.proofs.Common.{◌≡◌, rules, sym}
use Rattle.std.specs.Prelude.{Err}
use Rattle.screening.proofs.Judging.{screen-stopped, screen-completed}
use Rattle.screening.proofs.calls.screen.Goals as goal

pub returns-in_err-check_screen : goal.returns-in_err-check_screen
returns-in_err-check_screen c =
    let first : c.from_residual.result ≡ Err c.in_err-check_screen.field-0.0 = search rules in
    rw first (screen-stopped _ _ _ _ _ _ c.in_err-check_screen.ensures)

pub returns : goal.returns
returns c =
    let made = c.table.ensures in
    screen-completed _ _ _ _ _ (sym c.in_ok-check_screen.ensures) made.result_value made.totals_after made.rows_after
