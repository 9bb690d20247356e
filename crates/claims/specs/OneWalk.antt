-- V14, V15: "form row numerators and the four sums in one walk over the totals that reads each once. Prove for every e up to N: after e
-- totals, rows and sums hold exactly what effects 0 to e - 1 bring."
--
--   total_in p readings                  the total of each effect, of the run sums
--   HeldAfter p readings marks e h       what a loop holds is what rows and sums hold after e totals
--   EveryTotal p readings marks          so it is of the table call's loop, for every e up to N
--   source_in s c                        what the sums s have of the kind c
--   moving p readings marks c            what the block amount of a three-level plan takes from the kind c: its row's kind loses it
--   AtEnd p readings marks totals rows   after N totals, with the block amount moved from its row to blocks, and the squares within runs added, they are the
--                                        table's rows and figures
--   OneWalk                              THE CLAIM
--
-- `course_two` and `course_three` are what the loops of `walks` hold after e totals, by the lists that `walk` hands to them: each effect changes
-- it as `bring_two` or `bring_three` promises, and that rows, parts and sum are just that is the invariant in the proof of each loop
-- (`RunningTwo`, `RunningThree`). At two levels a turn is two effects, and between them it is the course after one more (`two-more`).
use Rattle.std.specs.Prelude.{◌≡◌, cond, List, ℕ, ◌+◌, ◌<◌, ◌≤◌, eqb, ℤ, length, get_or}
use Rattle.contrasts.specs.Columns.{read, totals_of}
use Rattle.contrasts.specs.Totals.{Column, total}
use Rattle.effects.specs.Effects.{effect_rows, effect_weights}
use Rattle.plan.specs.declared.types.Plan.{Plan}
use Rattle.plan.specs.Plan.{factors_of, runs_of, run_sums_of, word_row}
use Rattle.rows.specs.Kinds.{rows_in, Kind, mean_row, blocks_row, error_row, kept_row, kind_of, code_of, same, kinds_of}
use Rattle.walks.specs.declared.types.Sums.{Sums}
use Rattle.walks.specs.After.{rows_after, sums_after}
use Rattle.walks.specs.State.{held_in, Held, course_two, course_three}
use Rattle.anova.specs.declared.types.Source.{Source}
use Rattle.anova.specs.Table.{block_degrees, block_amount, block_source, table_refused, within_source, joined, table_figures, table_rows}

-- T8, T29
abbrev pub total_in : Plan → List ℤ → Column
total_in p readings = total (factors_of p) (read (run_sums_of p readings))

-- "after e totals, rows and sums hold exactly what effects 0 to e - 1 bring"
pub record HeldAfter (p : Plan) (readings : List ℤ) (marks : List ℕ) (e : ℕ) (h : Held) : Type 0 where
  pub rows_are : h.rows ≡ rows_after p (total_in p readings) e
  -- four sums of numerators and four of degrees, each in two parts, and the sum of the totals
  pub sums-are : held_in h.parts h.sum ≡ sums_after p (total_in p readings) marks e

-- "for every e up to N"
pub record EveryTotal (p : Plan) (readings : List ℤ) (marks : List ℕ) : Type 0 where
  pub two-levels : p.levels ≡ 2 → (e : ℕ) → e ≤ runs_of p
      → HeldAfter p readings marks e (course_two (totals_of (factors_of p) (run_sums_of p readings)) (kinds_of p marks) (rows_in p) e)
  pub three-levels : p.levels ≡ 3 → (e : ℕ) → e ≤ runs_of p
      → HeldAfter p readings marks e (course_three (totals_of (factors_of p) (run_sums_of p readings)) (effect_rows p) (effect_weights p) (kinds_of p marks) (rows_in p) e)

-- V10
abbrev pub source_in : Sums → Kind → Source
source_in s c = record { degrees = get_or s.degrees (code_of c) 0; numerator = get_or s.numerators (code_of c) 0 }

-- V18: the block amount leaves the kind of its row, "with 2 degrees"; of a plan without one it is nothing
abbrev pub moving : Plan → List ℤ → List ℕ → Kind → Source
moving p readings marks c = record {
  degrees = cond (same (kind_of p marks (word_row p)) c) (block_degrees p) 0;
  numerator = cond (same (kind_of p marks (word_row p)) c) (block_amount p (run_sums_of p readings)) 0;
}

-- V12, V13: what the call writes, and the figures that come from the walk; V18: what has left a row or a kind stands beside it
pub record AtEnd (p : Plan) (readings : List ℤ) (marks : List ℕ) (totals : List ℤ) (rows : List ℕ) : Type 0 where
  pub rows_long : length (table_rows p readings marks totals rows) ≡ rows_in p
  pub rows_written : (w : ℕ) → w < rows_in p
      → get_or (table_rows p readings marks totals rows) w 0 + cond (eqb w (word_row p)) (block_amount p (run_sums_of p readings)) 0
      ≡ get_or (rows_after p (total_in p readings) (runs_of p)) w 0
  pub mean : joined (table_figures p readings marks).mean (moving p readings marks mean_row)
      ≡ source_in (sums_after p (total_in p readings) marks (runs_of p)) mean_row
  pub kept : joined (table_figures p readings marks).kept (moving p readings marks kept_row)
      ≡ source_in (sums_after p (total_in p readings) marks (runs_of p)) kept_row
  -- V18: and "goes to the blocks line"
  pub blocks : joined (table_figures p readings marks).blocks (moving p readings marks blocks_row)
      ≡ joined (source_in (sums_after p (total_in p readings) marks (runs_of p)) blocks_row) (block_source p (run_sums_of p readings))
  -- V16: the squares within runs "join the error line"
  pub error : joined (table_figures p readings marks).error (moving p readings marks error_row)
      ≡ joined (source_in (sums_after p (total_in p readings) marks (runs_of p)) error_row) (within_source p readings)
  pub check : (table_figures p readings marks).checks.totals ≡ (sums_after p (total_in p readings) marks (runs_of p)).totals

abbrev pub OneWalk : Type 0
OneWalk =
    (p : Plan) (readings : List ℤ) (marks : List ℕ) (totals : List ℤ) (rows : List ℕ)
    → table_refused p readings marks totals rows ≡ 0
    → EveryTotal p readings marks × AtEnd p readings marks totals rows
