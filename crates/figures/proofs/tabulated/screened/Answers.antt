use Rattle.screening.specs.Screening.{screen_totals, screen_rows}
use Rattle.figures.specs.Laws.Roomed.{answered}
use Rattle.figures.proofs.tabulated.screened.Goals as goal

pub returns : goal.returns
unfolding screen_totals screen_rows
returns c =
    let made = c.screen-answer.ensures in
    let left = c.put.ensures in
    answered made.totals_after made.rows_after _ made.result_value left.number left.figures_after left.checks_after
