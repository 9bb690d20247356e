use Rattle.anova.proofs.Formed.{readings-ready, totals-made, walk-ready, sums-made, rows_made}
use Rattle.anova.proofs.tables.form.Goals as goal

pub form_totals-requires : goal.form_totals-requires
form_totals-requires c = readings-ready c.requires

pub walk-requires : goal.walk-requires
walk-requires c = walk-ready c.requires (totals-made c.requires c.form_totals.ensures)

pub returns : goal.returns
returns c =
    let totals-are = totals-made c.requires c.form_totals.ensures in
    let walk_is = c.walk.ensures in record { value = sums-made c.requires totals-are walk_is.value; column_after = totals-are; rows_after = rows_made c.requires totals-are walk_is.rows_after }
