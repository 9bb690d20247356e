use Rattle.lines.specs.Laws.Lines.{next-value}
use Rattle.lines.proofs.fields.next_value.Goals as goal

pub returns : goal.returns
returns c = next-value c.ranges.x c.put.ensures c.value.ensures
