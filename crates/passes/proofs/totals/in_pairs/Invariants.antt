use Rattle.std.proofs.Common.{◌*◌}
use Rattle.passes.proofs.Formed.{AllPassed}
use Rattle.passes.proofs.totals.in_pairs.Given as goal

abbrev pub invariant-loop-pair : goal.invariant-loop-pair
invariant-loop-pair g l = AllPassed g.L.Level.LEVELS l.k l.readings l.spacing (2 * l._pair) l.column
