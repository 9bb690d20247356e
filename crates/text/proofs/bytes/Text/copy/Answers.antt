use Rattle.text.specs.Laws.Writing.{part-more}
use Rattle.text.proofs.bytes.Text.copy.Goals as goal

pub loop-byte-preserved : goal.loop-byte-preserved
loop-byte-preserved c = part-more _ _ c.loop-byte-test.true c.loop-byte.invariant c.put.ensures
