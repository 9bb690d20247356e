use mathlib.Core.Path.{refl, ◌∙◌}
use native.Mathlib.Omega.{arith}
use Rattle.algebra.proofs.Laws.Machine.{kept}
use Rattle.walks.specs.State.{plus_at}
use Rattle.walks.proofs.Walked.{numerator-kept}
use Rattle.walks.proofs.bringing.bring_three.Goals as goal

pub numerator-n-requires : goal.numerator-n-requires
unfolding plus_at
numerator-n-requires c = rw (kept _ c.ranges.total.sfits) c.requires.weighable

pub overflow_add-rows : goal.overflow_add-rows
unfolding plus_at
overflow_add-rows c = omega (arith, c.requires.row_fits, numerator-kept c.args.total c.ranges.total.sfits c.args.weight c.numerator-n.ensures)

pub place_of-requires : goal.place_of-requires
unfolding plus_at
place_of-requires c = c.requires.one-half

pub add-requires : goal.add-requires
unfolding plus_at
add-requires c = rw (c.place_of.ensures, numerator-kept c.args.total c.ranges.total.sfits c.args.weight c.numerator-n.ensures) c.requires.addable

pub returns : goal.returns
unfolding plus_at
returns c =
    let numerator-is = numerator-kept c.args.total c.ranges.total.sfits c.args.weight c.numerator-n.ensures in
    record { rows_after = rw numerator-is refl; parts_after = (c.add.ensures ∙ rw (c.place_of.ensures, numerator-is) refl) }
