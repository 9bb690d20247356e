use native.Mathlib.Omega.{arith}
use Rattle.printing.specs.Laws.Rows.{one-degree, power-degrees, few-letters}
use Rattle.printing.proofs.row_texts.degrees.Goals as goal

pub returns-then-levels-eq2 : goal.returns-then-levels-eq2
returns-then-levels-eq2 c = one-degree _ _ c.if-levels-eq2.true

pub overflow_shl-result : goal.overflow_shl-result
overflow_shl-result c = omega (arith, few-letters c.args.row c.ranges.row.fits, c.count_letters.ensures)

pub returns : goal.returns
returns c = power-degrees _ _ c.if-levels-eq2.false c.ranges.row.fits c.count_letters.ensures
