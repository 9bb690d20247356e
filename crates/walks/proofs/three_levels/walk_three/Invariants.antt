use lib.ListN.{length}
use Rattle.walks.specs.State.{RunningThree}
use Rattle.walks.proofs.three_levels.walk_three.Given as goal

abbrev pub invariant-loop-e : goal.invariant-loop-e
invariant-loop-e l = RunningThree l.totals l.effects l.weights l.kinds (length l.initial.rows) l.e l.rows l.parts l.sum
