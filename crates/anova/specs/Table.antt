-- The table call: its number, its figures, and the columns that it leaves.
--
--   wrong_lengths              refusal 11, of all four slices
--   table_refusals             the refusals of the call besides those of the plan
--   table_refused              the first number that applies, 0 where the table is made
--   block_degrees p            the degrees of the block amount of a three-level plan, and 0 without a block word
--   block_amount p sums        its numerator, from the run sums
--   block_source p sums        both
--   row_degrees p w            the degrees of row w, less these where it is the row of the letters used
--   row_left p sums w          its numerator, less the amount
--   source_of p sums marks c    degrees and numerator of the rows of the kind c, from the run sums
--   within_source p xs         those of the squares of readings about their run's mean
--   joined s t                 two sources in one line
--   total_source p xs          degrees and numerator of the total
--   checks_of p sums           both check numbers
--   table_figures p xs marks   the figures
--   rows_of p sums              the row numerators
--   table_totals, table_rows   the lent slices at exit
--   table_outcome              the cases of the call's answer
--   SourceWithin limit s       degrees and numerator of a source are within a limit
use Rattle.std.specs.Prelude.{Result, Bool, cond, ◌||◌, List, [], ◌∷◌, ℕ, ◌+◌, ◌-◌, ◌*◌, ◌≤◌, eqb, ℤ, length}
use Rattle.algebra.specs.Naturals.{Σℕ}
use Rattle.algebra.specs.Sum.{Σ}
use Rattle.algebra.specs.Tab.{tab}
use Rattle.contrasts.specs.Blocks.{block_numerator}
use Rattle.contrasts.specs.Columns.{read, totals_of, squares_of}
use Rattle.contrasts.specs.Repeats.{within_runs}
use Rattle.contrasts.specs.Rows.{degrees_of, row_numerator}
use Rattle.contrasts.specs.Totals.{total}
use Rattle.contrasts.specs.Checks.{rounds}
use Rattle.plan.specs.declared.types.Plan.{Plan}
use Rattle.plan.specs.Check.{with_plan}
use Rattle.plan.specs.Limits.{reading_limit}
use Rattle.plan.specs.Outcome.{Refusal, refusal, Outcome, written}
use Rattle.plan.specs.Refusals.{outcome_by}
use Rattle.plan.specs.declared.refusals.Refusal as refusals
use Rattle.plan.specs.Plan.{factors_of, runs_of, all_readings, run_sums_of, denominator_of, three_word, word_row}
use Rattle.columns.specs.Refusals.{wrong_length, wrong_readings, any_beyond}
use Rattle.rows.specs.Kinds.{rows_in, wrong_rows, Kind, mean_row, blocks_row, error_row, kept_row, kind_of, same, bad_marks}
use Rattle.anova.specs.declared.types.Source.{Source}
use Rattle.anova.specs.declared.types.Checks.{Checks}
use Rattle.anova.specs.declared.types.Figures.{Figures}

-- ---- what is refused

-- N11: "readings, totals, rows or marks not N, N, R, R long"; of readings there are N times r (R10)
unfoldable pub wrong_lengths : Plan → ℕ → ℕ → ℕ → ℕ → Bool
wrong_lengths p readings marks totals rows = wrong_readings p readings || (wrong_length p totals || (wrong_rows p rows || wrong_rows p marks))

-- L11: "the table 11, 12, 13", after the plan's own numbers
abbrev pub table_refusals : Plan → List ℤ → List ℕ → List ℤ → List ℕ → List Refusal
table_refusals p readings marks totals rows =
    refusal 11 (wrong_lengths p (length readings) (length marks) (length totals) (length rows))
    ∷ refusal 12 (any_beyond (reading_limit p) readings)
    ∷ refusal 13 (bad_marks p marks)
    ∷ []

unfoldable pub table_refused : Plan → List ℤ → List ℕ → List ℤ → List ℕ → ℕ
table_refused p readings marks totals rows = with_plan p (table_refusals p readings marks totals rows)

-- ---- the figures

-- V18: the block amount goes "with 2 degrees"; there is none without a block word of three levels
unfoldable pub block_degrees : Plan → ℕ
block_degrees p = cond (eqb (three_word p) 0) 0 2

-- V17
unfoldable pub block_amount : Plan → List ℤ → ℕ
block_amount p sums = cond (eqb (three_word p) 0) 0 (block_numerator (factors_of p) p.repeats (three_word p) (read sums))

unfoldable pub block_source : Plan → List ℤ → Source
block_source p sums = record { degrees = block_degrees p; numerator = block_amount p sums }

-- V18: "It leaves the row of the letters used, with 2 degrees"
unfoldable pub row_degrees : Plan → ℕ → ℕ
row_degrees p w = degrees_of (factors_of p) w - cond (eqb w (word_row p)) (block_degrees p) 0

-- V18, V19: that row "holds the remainder", which is "never negative" (`never-below`)
unfoldable pub row_left : Plan → List ℤ → ℕ → ℕ
row_left p sums w = row_numerator (factors_of p) (read sums) w - cond (eqb w (word_row p)) (block_amount p sums) 0

-- V10: "Each of these four adds up the degrees and numerators of its rows."; T29: "passes work on the run sums"
unfoldable pub source_of : Plan → List ℤ → List ℕ → Kind → Source
source_of p sums marks c = record {
  degrees = Σℕ (rows_in p) (λ w. cond (same (kind_of p marks w) c) (row_degrees p w) 0);
  numerator = Σℕ (rows_in p) (λ w. cond (same (kind_of p marks w) c) (row_left p sums w) 0);
}

-- V16: "The squares of readings about their run's mean, over the new denominator, [..] with N times (r - 1) degrees"
unfoldable pub within_source : Plan → List ℤ → Source
within_source p readings = record {
  degrees = runs_of p * (p.repeats - 1);
  numerator = within_runs (factors_of p) p.repeats (read readings);
}

-- V16: they "join the error line"; V18: the block amount "goes to the blocks line"
unfoldable pub joined : Source → Source → Source
joined s t = record { degrees = s.degrees + t.degrees; numerator = s.numerator + t.numerator }

-- V5, V13: "the total (denominator times the sum of squared readings)"; its degrees are the number of readings
unfoldable pub total_source : Plan → List ℤ → Source
total_source p readings = record {
  degrees = all_readings p;
  numerator = denominator_of p * squares_of readings;
}

-- T21, T22: "The check sum of the totals is N times the first reading at two levels. At three levels it is what k rounds leave": what a
-- round for each factor leaves, which at two levels is N times the first of the column (`rounds-two`); T31: "The check number is worked
-- from the run sums."
unfoldable pub checks_of : Plan → List ℤ → Checks
checks_of p sums = record {
  totals = Σ (runs_of p) (total (factors_of p) (read sums));
  readings = rounds (factors_of p) (read sums);
}

-- V13: "denominator, degrees and numerators of mean, kept effects, blocks and error, the total [..] and both check numbers"
unfoldable pub table_figures : Plan → List ℤ → List ℕ → Figures
table_figures p readings marks = record {
  denominator = denominator_of p;
  mean = source_of p (run_sums_of p readings) marks mean_row;
  kept = source_of p (run_sums_of p readings) marks kept_row;
  blocks = joined (source_of p (run_sums_of p readings) marks blocks_row) (block_source p (run_sums_of p readings));
  error = joined (source_of p (run_sums_of p readings) marks error_row) (within_source p readings);
  total = total_source p readings;
  checks = checks_of p (run_sums_of p readings);
}

-- ---- what is written

-- V12: "R row numerators"
unfoldable pub rows_of : Plan → List ℤ → List ℕ
rows_of p sums = tab (rows_in p) (row_left p sums)

-- V12: "writes N totals"
unfoldable pub table_totals : Plan → List ℤ → List ℕ → List ℤ → List ℕ → List ℤ
table_totals p readings marks totals rows = written (table_refused p readings marks totals rows) (totals_of (factors_of p) (run_sums_of p readings)) totals

-- V12
unfoldable pub table_rows : Plan → List ℤ → List ℕ → List ℤ → List ℕ → List ℕ
table_rows p readings marks totals rows = written (table_refused p readings marks totals rows) (rows_of p (run_sums_of p readings)) rows

-- ---- the answer

-- F12
abbrev pub table_outcome : Result Figures refusals.Refusal → Outcome Figures
table_outcome answer = outcome_by (λ v. v) answer

-- ---- the limit

-- T20: no number of a source exceeds a limit, which is that of the plan's numerators
pub record SourceWithin (limit : ℕ) (s : Source) : Type 0 where
  pub degrees : s.degrees ≤ limit
  pub numerator : s.numerator ≤ limit
