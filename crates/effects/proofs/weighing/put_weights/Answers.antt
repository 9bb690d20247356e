use mathlib.Core.Path.{refl}
use Rattle.effects.proofs.Counted.{few-effects, is-three}
use Rattle.effects.proofs.Weighed.{no-weights, effect-weights-two, effect-weights-three}
use Rattle.effects.proofs.weighing.put_weights.Goals as goal

pub returns-then-n-eq0 : goal.returns-then-n-eq0
returns-then-n-eq0 c = no-weights _ c.runs-n.ensures c.if-n-eq0.true

pub put_weights_of_two-requires : goal.put_weights_of_two-requires
put_weights_of_two-requires c = (few-effects _ c.runs-n.ensures, refl)

pub returns-then-p-eq2 : goal.returns-then-p-eq2
returns-then-p-eq2 c = effect-weights-two _ c.runs-n.ensures c.if-n-eq0.false c.if-p-eq2.true c.put_weights_of_two.ensures

pub put_weights_of_three-requires-clause-known : goal.put_weights_of_three-requires-clause-known
put_weights_of_three-requires-clause-known c = is-three _ c.runs-n.ensures c.if-n-eq0.false c.if-p-eq2.false

pub returns : goal.returns
returns c = effect-weights-three _ c.runs-n.ensures c.if-n-eq0.false c.if-p-eq2.false c.put_weights_of_three.ensures
