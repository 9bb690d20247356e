use Rattle.estimates.proofs.Laws.Powers.{exponent-few, zeros-are}
use Rattle.estimates.proofs.effects.exponent.Goals as goal

pub returns : goal.returns
returns c =
    let zeros = zeros-are c.args.repeats c.requires in
    (zeros, rw zeros (exponent-few c.args.repeats))
