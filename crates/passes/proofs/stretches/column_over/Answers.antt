use Rattle.std.proofs.Common.{refl, ◌∙◌}
use Rattle.passes.proofs.stretches.column_over.Goals as goal

pub returns-then-spacing-eq1 : goal.returns-then-spacing-eq1
returns-then-spacing-eq1 g c = c.stretches_over.ensures ∙ rw c.if-spacing-eq1.true refl
