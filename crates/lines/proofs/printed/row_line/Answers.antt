use Rattle.lines.specs.Laws.Lines.{row_made}
use Rattle.lines.proofs.printed.row_line.Goals as goal

pub returns : goal.returns
returns c = rw (← c.kind_of.ensures) (row_made _ _ _ _ c.label.ensures c.next_pair.ensures c.next_kind.ensures c.end_line.ensures)
