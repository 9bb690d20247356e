-- D3.8 to D3.10: "And whatever readings and marks the table call accepts, its numerators for mean, kept effects, blocks and error, each
-- formed as the table's rules say, add up"; "mean, kept effects, blocks and error, these last squares in the error line, add up to the
-- denominator times that sum", of all squared readings.
--
--   of_kind p marks rows c       the numerators of the rows of the kind c, added up
--   degrees_of_kind p marks c    and their degrees
--   leaving p w n                what leaves row w, where n leaves the row of the letters that a three-level block word uses
--   Formed p xs marks ts rows f  each of the four is formed as the rules say, from the totals and rows that the call writes, and the readings xs
--   total_numerator p readings   the total
--   AddsUp p readings f          what is claimed of the figures f
--   NoneBeyond p readings f      no number of the table exceeds the limit of numerators, which goes by the plan's levels
--   TableAddsUp                  THE CLAIM
use Rattle.std.specs.Prelude.{◌≡◌, Bool, cond, List, ℕ, ◌+◌, ◌*◌, ◌-◌, ◌<◌, ◌≤◌, eqb, ℤ, nat_abs, get_or}
use Rattle.algebra.specs.Naturals.{Σℕ}
use Rattle.contrasts.specs.Columns.{read, totals_of, squares_of}
use Rattle.contrasts.specs.Rows.{row_of, degrees_of}
use Rattle.contrasts.specs.Totals.{numerator}
use Rattle.plan.specs.declared.types.Plan.{Plan}
use Rattle.plan.specs.Plan.{factors_of, runs_of, all_readings, run_sums_of, denominator_of, word_row}
use Rattle.plan.specs.Limits.{numerator_limit}
use Rattle.rows.specs.Kinds.{rows_in, Kind, mean_row, blocks_row, error_row, kept_row, kind_of, same}
use Rattle.anova.specs.declared.types.Figures.{Figures}
use Rattle.anova.specs.Table.{block_degrees, block_amount, row_degrees, table_refused, table_figures, table_totals, table_rows, rows_of, SourceWithin}
use Rattle.claims.specs.SumOfSquares.{numerator_in, squares_within}

-- V6 to V10: "Row 0 is the mean. Confounded rows are blocks. Rows with mark 1 are error; mark 0 keeps any other row. Each of these four adds up the
-- degrees and numerators of its rows."
abbrev pub of_kind : Plan → List ℕ → List ℕ → Kind → ℕ
of_kind p marks rows c = Σℕ (rows_in p) (λ w. cond (same (kind_of p marks w) c) (get_or rows w 0) 0)

abbrev pub degrees_of_kind : Plan → List ℕ → Kind → ℕ
degrees_of_kind p marks c = Σℕ (rows_in p) (λ w. cond (same (kind_of p marks w) c) (row_degrees p w) 0)

-- what leaves row w, where n leaves the row of the letters used
abbrev pub leaving : Plan → ℕ → ℕ → ℕ
leaving p w n = cond (eqb w (word_row p)) n 0

-- D3.9: "each formed as the table's rules say"
pub record Formed (p : Plan) (readings : List ℤ) (marks : List ℕ) (totals : List ℤ) (rows : List ℕ) (f : Figures) : Type 0 where
  -- V2: "A three-level row adds the numerators of every effect using exactly its letters.": of the totals that the call writes; V18: the block amount "leaves
  -- the row of the letters used, with 2 degrees"
  pub each_row : (w : ℕ) → w < rows_in p
      → get_or rows w 0 + leaving p w (block_amount p (run_sums_of p readings)) ≡ Σℕ (runs_of p) (λ e. cond (eqb (row_of (factors_of p) e) w) (numerator_in p totals e) 0)
  pub each-degrees : (w : ℕ) → row_degrees p w + leaving p w (block_degrees p) ≡ degrees_of (factors_of p) w
  pub degrees : (f.mean.degrees ≡ degrees_of_kind p marks mean_row)
      × (f.kept.degrees ≡ degrees_of_kind p marks kept_row)
      × (f.blocks.degrees ≡ degrees_of_kind p marks blocks_row + block_degrees p)
      × (f.error.degrees ≡ degrees_of_kind p marks error_row + runs_of p * (p.repeats - 1))
  pub mean : f.mean.numerator ≡ of_kind p marks rows mean_row
  pub kept : f.kept.numerator ≡ of_kind p marks rows kept_row
  -- V18: it "goes to the blocks line"
  pub blocks : f.blocks.numerator ≡ of_kind p marks rows blocks_row + block_amount p (run_sums_of p readings)
  -- V16: "The squares of readings about their run's mean, over the new denominator, join the error line with N times (r - 1) degrees."
  pub error : f.error.numerator ≡ of_kind p marks rows error_row + squares_within p readings
  -- R10, T29: the totals that the call writes are those of the run sums
  pub totals-of-sums : totals ≡ totals_of (factors_of p) (run_sums_of p readings)
  -- T30: "The denominator [is] multiplied by r."
  pub over : f.denominator ≡ denominator_of p

-- V13: "the total (denominator times the sum of squared readings)"
abbrev pub total_numerator : Plan → List ℤ → ℕ
total_numerator p readings = denominator_of p * squares_of readings

pub record AddsUp (p : Plan) (readings : List ℤ) (f : Figures) : Type 0 where
  pub numerators : f.mean.numerator + f.kept.numerator + f.blocks.numerator + f.error.numerator ≡ total_numerator p readings
  pub total : f.total.numerator ≡ total_numerator p readings
  -- V5: "The degrees of mean, kept effects, blocks and error add up to the total's", which are N times r
  pub degrees : f.mean.degrees + f.kept.degrees + f.blocks.degrees + f.error.degrees ≡ f.total.degrees
  pub total-degrees : f.total.degrees ≡ all_readings p
  pub checks : f.checks.totals ≡ f.checks.readings

-- T20: "No two-level numerator or sum of them exceeds 1,048,576,000,000,000,000."; at three levels "No numerator, and no sum of them in one
-- table, exceeds 340,122,240,000,000,000."; nor does any other number of the table in size
pub record NoneBeyond (p : Plan) (readings : List ℤ) (f : Figures) : Type 0 where
  pub totals : (e : ℕ) → e < runs_of p → nat_abs (read (totals_of (factors_of p) (run_sums_of p readings)) e) ≤ numerator_limit p
  -- any sum of some of the first n effects' numerators, and so each of them
  pub some-numerators : (n : ℕ) (some : ℕ → Bool) → n ≤ runs_of p
      → Σℕ n (λ e. cond (some e) (numerator (factors_of p) (read (run_sums_of p readings)) e) 0) ≤ numerator_limit p
  pub within : squares_within p readings ≤ numerator_limit p
  pub rows : (w : ℕ) → w < rows_in p → get_or (rows_of p (run_sums_of p readings)) w 0 ≤ numerator_limit p
  pub denominator : f.denominator ≤ numerator_limit p
  pub mean : SourceWithin (numerator_limit p) f.mean
  pub kept : SourceWithin (numerator_limit p) f.kept
  pub blocks : SourceWithin (numerator_limit p) f.blocks
  pub error : SourceWithin (numerator_limit p) f.error
  pub total : SourceWithin (numerator_limit p) f.total
  pub checks : (nat_abs f.checks.totals ≤ numerator_limit p) × (nat_abs f.checks.readings ≤ numerator_limit p)

abbrev pub TableAddsUp : Type 0
TableAddsUp =
    (p : Plan) (readings : List ℤ) (marks : List ℕ) (totals : List ℤ) (rows : List ℕ)
    → table_refused p readings marks totals rows ≡ 0
    → Formed p readings marks (table_totals p readings marks totals rows) (table_rows p readings marks totals rows) (table_figures p readings marks)
    × AddsUp p readings (table_figures p readings marks)
    × NoneBeyond p readings (table_figures p readings marks)
