use Rattle.contrasts.proofs.Laws.Sets.{sum_fits, less-fits, sum_is, less-is}
use Rattle.levels.proofs.PairRows.{same_rows}
use Rattle.levels.proofs.pairs.rows_of.Goals as goal

pub overflow_add-result : goal.overflow_add-result
overflow_add-result c = search (sum_fits, c.requires.0, c.requires.1)

pub overflow_sub-result : goal.overflow_sub-result
overflow_sub-result c = search (less-fits, c.requires.0, c.requires.1)

pub returns : goal.returns
returns c = same_rows (sum_is c.requires.0 c.requires.1) (less-is c.requires.0 c.requires.1)
