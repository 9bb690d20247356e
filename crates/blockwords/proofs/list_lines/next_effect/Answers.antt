use Rattle.blockwords.specs.Laws.Lists.{effect-put, effect-passed}
use Rattle.blockwords.proofs.list_lines.next_effect.Goals as goal

pub returns-then-lost : goal.returns-then-lost
returns-then-lost c = effect-put _ c.if-lost.true c.put.ensures c.letters.ensures

pub returns-else-lost : goal.returns-else-lost
returns-else-lost c = effect-passed _ _ c.if-lost.false
