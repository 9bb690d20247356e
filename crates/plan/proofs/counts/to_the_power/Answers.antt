use Rattle.plan.proofs.Laws.Sizes.{power-fits}
use Rattle.plan.proofs.counts.to_the_power.Goals as goal

pub pow-requires : goal.pow-requires
pow-requires c = power-fits _ _ c.requires.0 c.requires.1
