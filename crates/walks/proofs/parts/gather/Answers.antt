use lib.Dec.{lit<}
use Rattle.algebra.proofs.Laws.Machine.{kept}
use Rattle.walks.specs.State.{held_in}
use Rattle.walks.proofs.parts.gather.Goals as goal

pub join-numerators-requires : goal.join-numerators-requires
unfolding held_in
join-numerators-requires c = (c.requires, lit< tt)

pub join-degrees-requires : goal.join-degrees-requires
unfolding held_in
join-degrees-requires c = (c.requires, lit< tt)

pub returns : goal.returns
unfolding held_in
returns c =
    let totals-is = kept c.args.totals c.ranges.totals.sfits in
    λ i. record { numerators = c.join-numerators.ensures i; degrees = c.join-degrees.ensures i; totals = totals-is i }
