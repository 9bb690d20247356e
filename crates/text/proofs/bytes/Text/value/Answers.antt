use mathlib.Core.Path.{◌∙◌}
use Rattle.text.specs.Laws.Writing.{retext}
use Rattle.text.specs.Laws.Decimal.{signed-told}
use Rattle.text.proofs.bytes.Text.value.Goals as goal

pub returns : goal.returns
returns c = retext (c.as_bytes.ensures.value ∙ c.format.ensures.text ∙ signed-told c.ranges.x) c.copy.ensures
