use Rattle.std.proofs.Common.{refl, ◌∙◌}
use Rattle.passes.proofs.Summed.{once-ready, once-made, runs-ready, sums-ready}
use Rattle.passes.proofs.totals.totals.Goals as goal

pub once-requires : goal.once-requires
once-requires g c = once-ready c.requires c.if-repeats-eq1.true

pub sum_runs-requires : goal.sum_runs-requires
sum_runs-requires g c = runs-ready c.requires

pub all_passes-requires : goal.all_passes-requires
all_passes-requires g c = sums-ready c.requires c.sum_runs.ensures

pub returns-then-repeats-eq1 : goal.returns-then-repeats-eq1
returns-then-repeats-eq1 g c = once-made c.requires c.if-repeats-eq1.true c.once.ensures

pub returns-else-repeats-eq1 : goal.returns-else-repeats-eq1
returns-else-repeats-eq1 g c = c.all_passes.ensures ∙ rw c.sum_runs.ensures refl
