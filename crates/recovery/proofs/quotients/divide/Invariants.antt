use Rattle.recovery.proofs.Divided.{Dividing}
use Rattle.recovery.proofs.quotients.divide.Given as goal

abbrev pub invariant-loop-sum : goal.invariant-loop-sum
invariant-loop-sum l = Dividing l.denominator l.limit l.initial.column l.sum-index l.any l.column
