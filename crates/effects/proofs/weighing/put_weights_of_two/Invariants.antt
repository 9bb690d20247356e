use Rattle.effects.proofs.Filling.{Singly}
use Rattle.effects.proofs.weighing.put_weights_of_two.Given as goal

abbrev pub invariant-loop-e : goal.invariant-loop-e
invariant-loop-e l = Singly (λ j. 1) (λ j. 0) l.n l.e l.weights
