use Rattle.text.specs.Laws.Writing.{then}
use Rattle.lines.proofs.fields.next_number.Goals as goal

pub returns : goal.returns
returns c = then c.put.ensures c.number.ensures
