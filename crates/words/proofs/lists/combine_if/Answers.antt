use mathlib.Core.Path.{refl}
use Rattle.words.proofs.lists.combine_if.Goals as goal

pub returns-then-chosen : goal.returns-then-chosen
returns-then-chosen c = rw c.if-chosen.true refl

pub returns-else-chosen : goal.returns-else-chosen
returns-else-chosen c = rw c.if-chosen.false refl
