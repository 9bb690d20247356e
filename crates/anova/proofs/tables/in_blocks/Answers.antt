use mathlib.Core.Path.{refl}
use Rattle.anova.proofs.Made.{on-used, column-long}
use Rattle.anova.proofs.Moved.{amount-ready, row-ready, rows_left, marks-there, moved_ready, moved-is}
use Rattle.anova.proofs.tables.in_blocks.Goals as goal

pub amount_of-amount-requires : goal.amount_of-amount-requires
amount_of-amount-requires c = amount-ready c.requires

pub by_effects-figures-requires : goal.by_effects-figures-requires
by_effects-figures-requires c =
    let pre = c.requires in
    on-used pre.ready c.amount_of-amount.ensures.column_len_unchanged

pub leave_row-requires : goal.leave_row-requires
leave_row-requires c =
    let pre = c.requires in
    row-ready pre c.amount_of-amount.ensures.value c.word_row-row.ensures c.by_effects-figures.ensures.rows_after

pub bounds-marks-row : goal.bounds-marks-row
bounds-marks-row c =
    let pre = c.requires in
    marks-there pre c.amount_of-amount.ensures.value c.word_row-row.ensures

pub move_amount-requires : goal.move_amount-requires
move_amount-requires c =
    let pre = c.requires in
    moved_ready pre c.amount_of-amount.ensures.value c.word_row-row.ensures refl c.by_effects-figures.ensures.value

pub shape_of-column : goal.shape_of-column
shape_of-column c =
    let pre = c.requires in
    column-long pre.ready c.by_effects-figures.ensures.column_after

pub returns : goal.returns
returns c =
    let pre = c.requires in
    let amount-is = c.amount_of-amount.ensures.value in
    let row_is = c.word_row-row.ensures in
    let made-is = c.by_effects-figures.ensures in record { value = moved-is pre amount-is row_is refl made-is.value c.move_amount.ensures; column_after = made-is.column_after; rows_after = rows_left pre amount-is row_is made-is.rows_after c.leave_row.ensures }
