-- Places beyond a plan's counts are ignored by the table call too.
--
--   same-refused, same-figures    plans that agree as far as their counts reach get the same answer
--   same_rows                     and the same rows; their totals are those of the same factors
use Rattle.std.specs.Prelude.{◌≡◌, List, ℕ, ℤ}
use Rattle.std.proofs.Math.Path.{refl, ap}
use Rattle.std.proofs.Common.{◌∙◌}
use Rattle.algebra.specs.Tab.{tab}
use Rattle.algebra.specs.Laws.Tab.{tab-cong}
use Rattle.plan.specs.declared.types.Plan.{Plan}
use Rattle.plan.specs.Check.{with_plan}
use Rattle.plan.specs.Plan.{factors_of, run_sums_of}
use Rattle.plan.proofs.Laws.Alike.{Alike, same-refused as same-plan-refused, same-limit}
use Rattle.columns.specs.Refusals.{wrong_length, wrong_readings}
use Rattle.rows.specs.Kinds.{rows_in, wrong_rows, kind_of, bad_mark, bad_marks}
use Rattle.anova.specs.Table.{wrong_lengths, table_refused, block_degrees, block_amount, block_source, row_degrees, row_left, source_of, within_source, total_source, checks_of}
use Rattle.anova.specs.Table.{table_figures, rows_of}

module _ {p q : Plan} (a : Alike p q) (readings : List ℤ) where
  pub same-refused : (marks : List ℕ) (totals : List ℤ) (rows : List ℕ) → table_refused p readings marks totals rows ≡ table_refused q readings marks totals rows
  unfolding table_refused with_plan wrong_lengths wrong_rows wrong_readings wrong_length bad_marks bad_mark factors_of
  same-refused marks totals rows = rw (same-limit a, same-plan-refused a, a.blockwords, a.levels, a.k, a.repeats) refl

  pub same-figures : (marks : List ℕ) → table_figures p readings marks ≡ table_figures q readings marks
  unfolding table_figures source_of row_degrees row_left block_source block_degrees block_amount within_source total_source checks_of kind_of factors_of
  same-figures marks = rw (a.blockwords, a.numbers, a.levels, a.k, a.repeats) refl

  same_row : (w : ℕ) → row_left p (run_sums_of p readings) w ≡ row_left q (run_sums_of q readings) w
  unfolding row_left block_amount factors_of
  same_row w = rw (a.numbers, a.levels, a.k, a.repeats) refl

  pub same_rows : rows_of p (run_sums_of p readings) ≡ rows_of q (run_sums_of q readings)
  unfolding rows_of
  same_rows =
      ap (λ (n : ℕ). tab n (row_left p (run_sums_of p readings))) (rw a.k refl)
      ∙ tab-cong 0 (rows_in q) (row_left p (run_sums_of p readings)) (row_left q (run_sums_of q readings)) (λ w _. same_row w)
