use mathlib.Core.Path.{refl, ◌∙◌}
use Rattle.algebra.proofs.Laws.Machine.{kept}
use Rattle.anova.proofs.Made.{squares-ready, spread-ready, on-used, column-long, check-ready, lengths-few, denominator-is, figures-ready, figures-made}
use Rattle.anova.proofs.Squared.{squares-summed}
use Rattle.anova.proofs.tables.by_effects.Goals as goal

pub sum_of_squares-squares-requires : goal.sum_of_squares-squares-requires
sum_of_squares-squares-requires c = squares-ready c.requires

pub about_means-within-requires : goal.about_means-within-requires
about_means-within-requires c =
    let pre = c.requires in
    spread-ready pre (c.sum_of_squares-squares.ensures ∙ squares-summed _)

pub check_number-check-requires : goal.check_number-check-requires
check_number-check-requires c =
    let pre = c.requires in
    check-ready (on-used pre c.about_means-within.ensures.column_len_unchanged)

pub denominator-once-requires : goal.denominator-once-requires
denominator-once-requires c =
    let pre = c.requires in
    lengths-few pre

pub form-sums-requires : goal.form-sums-requires
form-sums-requires c =
    let pre = c.requires in
    on-used pre (c.check_number-check.ensures.column_len_unchanged ∙ c.about_means-within.ensures.column_len_unchanged)

pub figures-requires : goal.figures-requires
figures-requires c =
    let pre = c.requires in
    let once_is = denominator-is pre c.denominator-once.ensures in
    figures-ready pre once_is (c.sum_of_squares-squares.ensures ∙ squares-summed _) c.about_means-within.ensures.value c.form-sums.ensures.value

pub shape_of-column : goal.shape_of-column
shape_of-column c =
    let pre = c.requires in
    column-long pre c.form-sums.ensures.column_after

pub returns : goal.returns
returns c =
    let pre = c.requires in
    let once_is = denominator-is pre c.denominator-once.ensures in
    let squares-is = c.sum_of_squares-squares.ensures ∙ squares-summed _ in
    let within-is = c.about_means-within.ensures in let form-is = c.form-sums.ensures in let check-is = kept _ c.check_number-check.type_inv ∙ c.check_number-check.ensures.value ∙ rw within-is.column_len_unchanged refl in
    let figures-are = figures-made pre once_is squares-is within-is.value form-is.value check-is c.figures.ensures in record { value = figures-are; column_after = form-is.column_after; rows_after = form-is.rows_after }
