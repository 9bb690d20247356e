-- The table by its effects alone, as it is before the block amount of a three-level plan leaves its row (V18). Without a block word of three
-- levels it is the table (`sources-stay`, `rows_stay`).
--
--   effect_source p sums marks c   degrees and numerator of the rows of the kind c, each with all its effects
--   effect_figures p xs marks      the figures
--   rows_by_effects p sums         the row numerators
use Rattle.std.specs.Prelude.{cond, List, ℕ, ℤ}
use Rattle.algebra.specs.Naturals.{Σℕ}
use Rattle.algebra.specs.Tab.{tab}
use Rattle.contrasts.specs.Columns.{read}
use Rattle.contrasts.specs.Rows.{degrees_of, row_numerator}
use Rattle.plan.specs.declared.types.Plan.{Plan}
use Rattle.plan.specs.Plan.{factors_of, run_sums_of, denominator_of}
use Rattle.rows.specs.Kinds.{rows_in, Kind, mean_row, blocks_row, error_row, kept_row, kind_of, same}
use Rattle.anova.specs.declared.types.Source.{Source}
use Rattle.anova.specs.declared.types.Figures.{Figures}
use Rattle.anova.specs.Table.{within_source, joined, total_source, checks_of}

unfoldable pub effect_source : Plan → List ℤ → List ℕ → Kind → Source
effect_source p sums marks c = record {
  degrees = Σℕ (rows_in p) (λ w. cond (same (kind_of p marks w) c) (degrees_of (factors_of p) w) 0);
  numerator = Σℕ (rows_in p) (λ w. cond (same (kind_of p marks w) c) (row_numerator (factors_of p) (read sums) w) 0);
}

unfoldable pub effect_figures : Plan → List ℤ → List ℕ → Figures
effect_figures p readings marks = record {
  denominator = denominator_of p;
  mean = effect_source p (run_sums_of p readings) marks mean_row;
  kept = effect_source p (run_sums_of p readings) marks kept_row;
  blocks = effect_source p (run_sums_of p readings) marks blocks_row;
  error = joined (effect_source p (run_sums_of p readings) marks error_row) (within_source p readings);
  total = total_source p readings;
  checks = checks_of p (run_sums_of p readings);
}

unfoldable pub rows_by_effects : Plan → List ℤ → List ℕ
rows_by_effects p sums = tab (rows_in p) (row_numerator (factors_of p) (read sums))
