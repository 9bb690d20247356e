use mathlib.Core.Path.{refl, ◌∙◌, ap, sym}
use Rattle.algebra.specs.Laws.Tests.{is}
use Rattle.contrasts.proofs.Laws.Undo.{sums_from}
use Rattle.columns.specs.Laws.Copies.{copied-over}
use Rattle.plan.specs.Plan.{factors_of}
use Rattle.recovery.proofs.Found.{summable, divisible, missing, found}
use Rattle.recovery.proofs.calls.judge.Goals as goal

pub sum_back-denominator-requires : goal.sum_back-denominator-requires
unfolding factors_of
sum_back-denominator-requires c =
    let pre = c.requires in
    summable pre (copied-over _ (pre.values ∙ sym pre.whole) c.copy_values.ensures)

pub divide-requires : goal.divide-requires
unfolding factors_of
divide-requires c =
    let pre = c.requires in
    let copied = copied-over _ (pre.values ∙ sym pre.whole) c.copy_values.ensures in
    let sums = c.sum_back-denominator.ensures in divisible pre (sums.column_after ∙ ap (sums_from 1 _) copied) sums.value c.run_limit.ensures

pub returns-then-divide : goal.returns-then-divide
unfolding factors_of
returns-then-divide c =
    let pre = c.requires in
    let copied = copied-over _ (pre.values ∙ sym pre.whole) c.copy_values.ensures in
    let sums = c.sum_back-denominator.ensures in
    let so = sums.column_after ∙ ap (sums_from 1 _) copied in
    let limit = c.run_limit.ensures in
    record {
      value = rw (is (missing pre so sums.value limit c.divide.ensures.value) c.if-divide.true) refl;
      column_after = found pre so sums.value limit c.divide.ensures.column_after;
    }

pub returns-else-divide : goal.returns-else-divide
unfolding factors_of
returns-else-divide c =
    let pre = c.requires in
    let copied = copied-over _ (pre.values ∙ sym pre.whole) c.copy_values.ensures in
    let sums = c.sum_back-denominator.ensures in
    let so = sums.column_after ∙ ap (sums_from 1 _) copied in
    let limit = c.run_limit.ensures in
    record {
      value = rw (is (missing pre so sums.value limit c.divide.ensures.value) c.if-divide.false) refl;
      column_after = found pre so sums.value limit c.divide.ensures.column_after;
    }
