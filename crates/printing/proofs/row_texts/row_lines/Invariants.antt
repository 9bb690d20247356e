use Rattle.text.specs.Text.{Writes}
use Rattle.printing.specs.Inner.Written.{rows_by}
use Rattle.printing.proofs.row_texts.row_lines.Given as goal

abbrev pub invariant-loop-i : goal.invariant-loop-i
invariant-loop-i l = Writes l.initial.text (rows_by l.levels l.used l.kinds l.rows l.i) l.text
