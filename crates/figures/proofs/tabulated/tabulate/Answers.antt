use Rattle.anova.specs.Table.{table_totals, table_rows}
use Rattle.figures.specs.Laws.Roomed.{answered}
use Rattle.figures.proofs.tabulated.tabulate.Goals as goal

pub returns : goal.returns
unfolding table_totals table_rows
returns c =
    let made = c.table-answer.ensures in
    let left = c.put.ensures in
    answered made.totals_after made.rows_after _ made.result_value left.number left.figures_after left.checks_after
