use mathlib.Core.Path.{sym, ◌∙◌}
use native.Mathlib.Omega.{arith}
use Rattle.printing.specs.Laws.Rows.{two-to-leave, all_left, less_two, others-left}
use Rattle.printing.proofs.row_texts.degrees_left.Goals as goal

pub returns-then-used-eq0 : goal.returns-then-used-eq0
returns-then-used-eq0 c = all_left _ _ _ c.degrees-all.ensures c.if-used-eq0.true

pub overflow_sub-result : goal.overflow_sub-result
overflow_sub-result c =
    let some = c.if-used-eq0.false in
    let enough = two-to-leave c.args.levels c.args.row (λ e. some (c.requires e)) (λ e. some (sym c.if-row-used.true ∙ e)) c.ranges.row.fits in
    omega (arith, enough, c.degrees-all.ensures)

pub returns-then-row-used : goal.returns-then-row-used
returns-then-row-used c = less_two _ _ _ c.degrees-all.ensures c.if-used-eq0.false c.if-row-used.true

pub returns-else-row-used : goal.returns-else-row-used
returns-else-row-used c = others-left _ _ _ c.degrees-all.ensures c.if-used-eq0.false c.if-row-used.false
