use Rattle.lines.specs.Laws.Lines.{check-made}
use Rattle.lines.proofs.printed.check_line.Goals as goal

pub returns : goal.returns
returns c = check-made c.ranges.totals c.ranges.readings c.copy.ensures c.next_value.ensures c.next_value-2.ensures c.end_line.ensures
