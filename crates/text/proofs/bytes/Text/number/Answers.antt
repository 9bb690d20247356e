use mathlib.Core.Path.{◌∙◌}
use Rattle.text.specs.Laws.Writing.{retext}
use Rattle.text.specs.Laws.Decimal.{decimal-told}
use Rattle.text.proofs.bytes.Text.number.Goals as goal

pub returns : goal.returns
returns c = retext (c.as_bytes.ensures.value ∙ c.format.ensures.text ∙ decimal-told _ c.ranges.n.fits) c.copy.ensures
