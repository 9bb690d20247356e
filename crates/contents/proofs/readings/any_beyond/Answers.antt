use mathlib.Core.Path.{◌∙◌}
use Rattle.contents.specs.Laws.Readings.{any-beyond-map}
use Rattle.contents.proofs.readings.any_beyond.Goals as goal

pub returns : goal.returns
returns c = rw (← c.reading_limit.ensures) (c.any_over.ensures ∙ any-beyond-map _ _ _ c.fours.ensures)
