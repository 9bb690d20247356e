-- The figures, from what the readings and the walk give.
--
--   line_in sums c                  degrees and numerator of the kind c, as the walk gives them
--   figures_from d n r s w sums z   the figures of n runs made r times: d is the denominator of runs made once, s the sum of squared readings, w that of
--                                   their squares about their run's mean, r times, and z the check number from the run sums
--   leaves line own m               what a line has left where the block amount m is of a row of its own
--   moved_figures f marked m        figures by effects with the block amount m moved, from a row that is marked as error or not
use Rattle.std.specs.Prelude.{Bool, cond, not, ℕ, ◌-◌, ◌*◌, ℤ, get_or}
use Rattle.rows.specs.Kinds.{Kind, mean_row, blocks_row, error_row, kept_row, code_of}
use Rattle.walks.specs.declared.types.Sums.{Sums}
use Rattle.anova.specs.declared.types.Source.{Source}
use Rattle.anova.specs.declared.types.Figures.{Figures}
use Rattle.anova.specs.Table.{joined}

abbrev pub line_in : Sums → Kind → Source
line_in sums c = record { degrees = get_or sums.degrees (code_of c) 0; numerator = get_or sums.numerators (code_of c) 0 }

unfoldable pub figures_from : (d n r s w : ℕ) → Sums → ℤ → Figures
figures_from d n r s w sums z = record {
  denominator = d * r;
  mean = line_in sums mean_row;
  kept = line_in sums kept_row;
  blocks = line_in sums blocks_row;
  error = joined (line_in sums error_row) (record { degrees = n * (r - 1); numerator = d * w });
  total = record { degrees = n * r; numerator = d * r * s };
  checks = record { totals = sums.totals; readings = z };
}

-- V18: "with 2 degrees"
unfoldable pub leaves : Source → Bool → ℕ → Source
leaves line own m = cond own (record { degrees = line.degrees - 2; numerator = line.numerator - m }) line

-- V18, V19: it "goes to the blocks line", and its row is error where it is marked, and else kept
unfoldable pub moved_figures : Figures → Bool → ℕ → Figures
moved_figures f marked m = record {
  denominator = f.denominator;
  mean = f.mean;
  kept = leaves f.kept (not marked) m;
  blocks = joined f.blocks (record { degrees = 2; numerator = m });
  error = leaves f.error marked m;
  total = f.total;
  checks = f.checks;
}
