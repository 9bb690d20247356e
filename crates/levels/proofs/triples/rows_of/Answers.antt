use lib.Dec.{lit≤}
use Rattle.contrasts.proofs.Laws.Sets.{sum_fits, less-fits, all-fits, scaled_fits, without-fits, third-fits, less-is, all-is, third-is}
use Rattle.levels.proofs.TripleRows.{same_rows}
use Rattle.levels.proofs.triples.rows_of.Goals as goal

pub overflow_add-result : goal.overflow_add-result
overflow_add-result c = sum_fits c.requires.0 c.requires.1

pub overflow_add-result-2 : goal.overflow_add-result-2
overflow_add-result-2 c = all-fits c.requires.0 c.requires.1 c.requires.2

pub overflow_sub-result : goal.overflow_sub-result
overflow_sub-result c = search (less-fits, c.requires.0, c.requires.1, c.requires.2)

pub overflow_mul-result : goal.overflow_mul-result
overflow_mul-result c = scaled_fits _ (lit≤ tt) c.requires.1

pub overflow_sub-result-2 : goal.overflow_sub-result-2
overflow_sub-result-2 c = without-fits _ (lit≤ tt) c.requires.0 c.requires.1

pub overflow_add-result-3 : goal.overflow_add-result-3
overflow_add-result-3 c = third-fits _ (lit≤ tt) c.requires.0 c.requires.1 c.requires.2

pub returns : goal.returns
returns c =
    same_rows (all-is c.requires.0 c.requires.1 c.requires.2) (less-is c.requires.0 c.requires.2)
    (third-is _ (lit≤ tt) c.requires.0 c.requires.1 c.requires.2)
