use mathlib.Core.Path.{refl, ◌∙◌}
use native.Mathlib.Omega.{arith}
use Rattle.algebra.proofs.Laws.Machine.{kept}
use Rattle.anova.proofs.Checked.{count_fits, first_run, first_fits, first-is, runs-ready, rounds-ready, rounds-made, column-kept}
use Rattle.anova.proofs.rounds.check_number.Goals as goal

pub overflow_cast-result : goal.overflow_cast-result
overflow_cast-result c = count_fits c.requires

pub run_sum-requires : goal.run_sum-requires
run_sum-requires c =
    let pre = c.requires in
    first_run pre _ (omega (arith, pre.some))

pub overflow_mul-result : goal.overflow_mul-result
overflow_mul-result c = first_fits c.requires (kept _ c.run_sum.type_inv ∙ c.run_sum.ensures)

pub returns-then-levels-eq2 : goal.returns-then-levels-eq2
returns-then-levels-eq2 c = record { value = first-is c.requires (kept _ c.run_sum.type_inv ∙ c.run_sum.ensures) c.if-levels-eq2.true; column_len_unchanged = refl }

pub sum_runs-requires : goal.sum_runs-requires
sum_runs-requires c = runs-ready c.requires

pub all_rounds-requires : goal.all_rounds-requires
all_rounds-requires c =
    let pre = c.requires in
    let if1-left = c.if-levels-eq2.false in
    rounds-ready pre if1-left c.sum_runs.ensures

pub shape_of-column : goal.shape_of-column
shape_of-column c =
    let pre = c.requires in
    let if1-left = c.if-levels-eq2.false in
    let sums-are = c.sum_runs.ensures in
    c.all_rounds.ensures.column_len_unchanged ∙ column-kept pre if1-left sums-are

pub returns : goal.returns
returns c =
    let pre = c.requires in
    let if1-left = c.if-levels-eq2.false in
    let sums-are = c.sum_runs.ensures in
    let all-rounds-is = c.all_rounds.ensures in let long = all-rounds-is.column_len_unchanged ∙ column-kept pre if1-left sums-are in record { value = kept _ c.all_rounds.type_inv ∙ rounds-made pre if1-left sums-are all-rounds-is.value; column_len_unchanged = long }
