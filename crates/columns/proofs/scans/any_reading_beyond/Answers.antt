use Rattle.plan.proofs.Laws.Limits.{reading-fits}
use Rattle.columns.proofs.scans.any_reading_beyond.Goals as goal

pub any_beyond-requires : goal.any_beyond-requires
any_beyond-requires c = rw c.reading_limit.ensures (reading-fits _)

pub returns : goal.returns
returns c = rw (← c.reading_limit.ensures) c.any_beyond.ensures
