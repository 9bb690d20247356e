use Rattle.effects.proofs.Counted.{few-effects, is-three}
use Rattle.effects.proofs.Shared.{no-effects, effect-divisors-two, effect-divisors-three}
use Rattle.effects.proofs.shares.divisors.Goals as goal

pub returns-then-n-eq0 : goal.returns-then-n-eq0
returns-then-n-eq0 c = no-effects _ c.runs-n.ensures c.if-n-eq0.true

pub divisors_of_two-requires : goal.divisors_of_two-requires
divisors_of_two-requires c = few-effects _ c.runs-n.ensures

pub returns-then-p-eq2 : goal.returns-then-p-eq2
returns-then-p-eq2 c = effect-divisors-two _ c.runs-n.ensures c.if-n-eq0.false c.if-p-eq2.true c.divisors_of_two.ensures

pub divisors_of_three-requires : goal.divisors_of_three-requires
divisors_of_three-requires c =
    let known = is-three _ c.runs-n.ensures c.if-n-eq0.false c.if-p-eq2.false in
    (known.0, known.2, known.3)

pub returns : goal.returns
returns c = effect-divisors-three _ c.runs-n.ensures c.if-n-eq0.false c.if-p-eq2.false c.divisors_of_three.ensures
