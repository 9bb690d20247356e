use Rattle.std.proofs.Common.{arith}
use Rattle.plan.proofs.Laws.Accepted.{sizes}
use Rattle.estimates.proofs.Limit.{shifted}
use Rattle.estimates.proofs.effects.total_limit.Goals as goal

pub overflow_shl-result : goal.overflow_shl-result
overflow_shl-result c = omega (arith, (sizes c.args.p c.requires.0).0, c.requires.1)

pub returns : goal.returns
returns c = rw c.run_limit.ensures (shifted c.args.p c.requires.1 c.requires.0)
