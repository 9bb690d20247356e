use Rattle.contents.specs.Laws.Readings.{readings-fours}
use Rattle.contents.proofs.readings.fours.Goals as goal

pub returns : goal.returns
returns c = rw c.as_chunks.ensures.front (readings-fours _)
