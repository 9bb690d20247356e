use Rattle.std.proofs.Common.{◌≡◌, rules, sym}
use Rattle.std.specs.Prelude.{Err}
use Rattle.anova.specs.Laws.Admitted.{table-admitted}
use Rattle.anova.proofs.Judged.{table-stopped, table-completed}
use Rattle.anova.proofs.tables.table.Goals as goal

pub returns-in_err-check_table : goal.returns-in_err-check_table
returns-in_err-check_table c =
    let first : c.from_residual.result ≡ Err c.in_err-check_table.field-0.0 = search rules in
    rw first (table-stopped _ _ _ _ _ _ c.in_err-check_table.ensures)

pub make-requires : goal.make-requires
make-requires c = table-admitted _ _ _ _ _ (sym c.in_ok-check_table.ensures)

pub returns : goal.returns
returns c =
    let made = c.make.ensures in
    table-completed _ _ _ _ _ (sym c.in_ok-check_table.ensures) made.value made.column_after made.rows_after
