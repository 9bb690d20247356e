use Rattle.std.proofs.Common.{◌*◌, length}
use Rattle.walks.specs.State.{RunningTwo}
use Rattle.walks.proofs.two_levels.walk_two.Given as goal

abbrev pub invariant-loop-pair : goal.invariant-loop-pair
invariant-loop-pair l = RunningTwo l.totals l.kinds (length l.initial.rows) (2 * l.pair) l.rows l.parts l.sum
