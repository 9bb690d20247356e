use mathlib.Core.Path.{refl}
use Rattle.sheet.proofs.Judging.{lengths-not, lengths-by}
use Rattle.sheet.proofs.refusals.wrong_lengths.Goals as goal

pub returns-then-narrow : goal.returns-then-narrow
returns-then-narrow c = rw c.if-narrow.true refl

pub returns-then-readings-reading_count : goal.returns-then-readings-reading_count
returns-then-readings-reading_count c =
    let pre = c.requires in
    lengths-not _ pre c.if-narrow.false c.reading_count.ensures _ _ c.if-readings-reading_count.true

pub returns : goal.returns
returns c =
    let pre = c.requires in
    lengths-by _ pre c.if-narrow.false c.reading_count.ensures _ _ c.if-readings-reading_count.false c.row_count.ensures
