use Rattle.text.specs.Laws.Writing.{then}
use Rattle.lines.proofs.fields.next_pair.Goals as goal

pub returns : goal.returns
returns c = then c.next_number.ensures c.next_number-2.ensures
