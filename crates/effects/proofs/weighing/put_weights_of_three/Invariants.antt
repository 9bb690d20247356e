use Rattle.effects.proofs.Weighed.{WeightsThree}
use Rattle.effects.proofs.weighing.put_weights_of_three.Given as goal

abbrev pub invariant-loop-q : goal.invariant-loop-q
invariant-loop-q l = WeightsThree l.k l.n l.q l.weights
