use mathlib.Core.Path.{refl, ◌∙◌}
use Rattle.algebra.proofs.Laws.Machine.{kept}
use Rattle.walks.proofs.Walked.{square-kept}
use Rattle.walks.proofs.bringing.bring_two.Goals as goal

pub square-n-requires : goal.square-n-requires
square-n-requires c = rw (kept _ c.ranges.total.sfits) (record { square-fits = c.requires.squarable })

pub place_of-requires : goal.place_of-requires
place_of-requires c = c.requires.one-half

pub add-requires : goal.add-requires
add-requires c = rw (c.place_of.ensures, square-kept c.args.total c.ranges.total.sfits c.square-n.ensures) c.requires.addable

pub returns : goal.returns
returns c =
    let square-is = square-kept c.args.total c.ranges.total.sfits c.square-n.ensures in
    record { rows_after = rw square-is refl; parts_after = (c.add.ensures ∙ rw (c.place_of.ensures, square-is) refl) }
