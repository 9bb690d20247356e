use mathlib.Core.Path.{refl}
use native.Mathlib.Omega.{arith}
use Rattle.anova.proofs.Spread.{none-about, runs-ready, sums-fit, sums-below, about-is, column-kept}
use Rattle.anova.proofs.squares.about_means.Goals as goal

pub returns-then-repeats-eq1 : goal.returns-then-repeats-eq1
returns-then-repeats-eq1 c = record { value = none-about c.requires c.if-repeats-eq1.true; column_len_unchanged = refl }

pub sum_runs-requires : goal.sum_runs-requires
sum_runs-requires c = runs-ready c.requires

pub overflow_mul-result : goal.overflow_mul-result
overflow_mul-result c =
    let pre = c.requires in
    omega (arith, pre.all_fit)

pub sum_of_squares-requires : goal.sum_of_squares-requires
sum_of_squares-requires c =
    let pre = c.requires in
    sums-fit pre c.sum_runs.ensures

pub overflow_sub-result : goal.overflow_sub-result
overflow_sub-result c =
    let pre = c.requires in
    let sums-are = c.sum_runs.ensures in
    omega (arith, sums-below pre sums-are c.sum_of_squares.ensures)

pub shape_of-column : goal.shape_of-column
shape_of-column c =
    let pre = c.requires in
    column-kept pre c.sum_runs.ensures

pub returns : goal.returns
returns c =
    let pre = c.requires in
    let sums-are = c.sum_runs.ensures in record { value = about-is pre sums-are c.sum_of_squares.ensures; column_len_unchanged = column-kept pre sums-are }
