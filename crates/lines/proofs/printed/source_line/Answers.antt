use Rattle.lines.specs.Laws.Lines.{source-made}
use Rattle.lines.proofs.printed.source_line.Goals as goal

pub returns : goal.returns
returns c = source-made _ _ c.copy.ensures c.next_pair.ensures c.end_line.ensures
