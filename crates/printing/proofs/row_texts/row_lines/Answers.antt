use mathlib.Core.Path.{◌∙◌}
use native.Mathlib.Omega.{arith}
use Rattle.rows.proofs.Laws.Kinds.{kind-in}
use Rattle.printing.specs.Laws.Rows.{no_rows, none-used, row_more, all-rows, few-rows}
use Rattle.printing.proofs.row_texts.row_lines.Goals as goal

pub loop-i-init : goal.loop-i-init
loop-i-init c = no_rows _ _ _ _ _

pub overflow_cast-row : goal.overflow_cast-row
overflow_cast-row c = record { fits = omega (arith, c.loop-i-test.true, few-rows c.requires c.args.marks.now) }

pub degrees_left-left-requires : goal.degrees_left-left-requires
degrees_left-left-requires c = λ e. c.word_row-used.ensures ∙ none-used _ e

pub bounds-kinds-i : goal.bounds-kinds-i
bounds-kinds-i c = omega (arith, c.loop-i-test.true, few-rows c.requires c.args.marks.now)

pub loop-i-preserved : goal.loop-i-preserved
loop-i-preserved c =
    let line = rw (c.number.ensures, kind-in _) at c.row_line.ensures in
    row_more _ _ _ _ _ c.degrees_left-left.ensures c.loop-i.invariant line

pub returns : goal.returns
returns c = all-rows c.requires _ c.word_row-used.ensures c.kinds-kinds.ensures (omega (arith, c.loop-i-test.false, c.loop-i.auto.i-end)) c.loop-i.invariant
