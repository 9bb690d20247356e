use mathlib.Core.Path.{refl}
use Rattle.effects.proofs.Counted.{few-effects}
use Rattle.effects.proofs.Rowed.{in-threes, effect-rows-two, effect-rows-three}
use Rattle.effects.proofs.letters.put_rows.Goals as goal

pub put_rows_of_two-requires : goal.put_rows_of_two-requires
put_rows_of_two-requires c = (few-effects _ c.runs-n.ensures, refl)

pub returns-then-p-eq2 : goal.returns-then-p-eq2
returns-then-p-eq2 c = effect-rows-two _ c.runs-n.ensures c.if-p-eq2.true c.put_rows_of_two.ensures

pub put_rows_of_three-requires : goal.put_rows_of_three-requires
put_rows_of_three-requires c =
    let known = in-threes _ c.runs-n.ensures c.if-p-eq2.false in
    (known.0, known.1, refl)

pub returns : goal.returns
returns c = effect-rows-three _ c.runs-n.ensures c.if-p-eq2.false c.put_rows_of_three.ensures
