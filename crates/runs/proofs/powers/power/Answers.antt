use native.Mathlib.Omega.{arith}
use Rattle.algebra.specs.Laws.Gathered.{one_shifted}
use Rattle.runs.proofs.powers.power.Goals as goal

pub returns : goal.returns
returns c = one_shifted c.args.n 16 (omega arith)
