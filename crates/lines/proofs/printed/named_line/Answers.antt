use Rattle.lines.specs.Laws.Lines.{named-made}
use Rattle.lines.proofs.printed.named_line.Goals as goal

pub returns : goal.returns
returns c = named-made _ c.copy.ensures c.next_number.ensures c.end_line.ensures
