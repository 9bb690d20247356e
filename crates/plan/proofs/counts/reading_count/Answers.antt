use mathlib.Core.Path.{refl, ◌∙◌}
use Rattle.plan.specs.Check.{reading_count}
use Rattle.plan.proofs.Laws.Sizes.{runs-within}
use Rattle.plan.proofs.counts.reading_count.Goals as goal

pub times-requires : goal.times-requires
unfolding reading_count
times-requires c = rw c.runs.ensures (runs-within _)

pub returns : goal.returns
unfolding reading_count
returns c = c.times.ensures ∙ rw c.runs.ensures refl
