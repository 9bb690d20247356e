-- That the claim `OneWalk` holds.
--
--   one-walk    the proof
use Rattle.std.specs.Prelude.{◌≡◌, ℕ, ◌+◌, ◌<◌, eqb, ℤ}
use Rattle.std.proofs.Math.Path.{sym, ap}
use Rattle.std.proofs.Common.{◌∙◌}
use Rattle.std.proofs.Math.Bool.{cond}
use mathlib.Core.List.{List}
use native.Mathlib.Omega.{arith}
use Rattle.std.proofs.Math.ListN.{length, get_or}
use Rattle.algebra.specs.Laws.Tab.{length-tab, get_or-tab}
use Rattle.contrasts.specs.Columns.{totals_of}
use Rattle.effects.specs.Effects.{effect_rows, effect_weights}
use Rattle.plan.specs.declared.types.Plan.{Plan}
use Rattle.plan.proofs.Laws.Answers.{written_new}
use Rattle.plan.specs.Check.{plan_refused}
use Rattle.plan.specs.Plan.{factors_of, runs_of, run_sums_of, word_row}
use Rattle.rows.specs.Kinds.{rows_in, Kind, mean_row, blocks_row, error_row, kept_row, kinds_of}
use Rattle.walks.specs.After.{rows_after, sums_after}
use Rattle.walks.proofs.Laws.After.{walking-agrees, two-agrees, three-agrees, rows-after}
use Rattle.walks.proofs.Laws.Plans.{two-walkable, three-walkable}
use Rattle.walks.specs.Ready.{PlanWalkable}
use Rattle.walks.proofs.Laws.Walking.{sums-held, two-walks, three-walks}
use Rattle.anova.specs.Laws.Admitted.{TableReady, table-admitted, sums-ready}
use Rattle.anova.specs.Laws.After.{row-after-all, numerator-after-all, degrees-after-all, totals-after-all, total-read, table-walkable}
use Rattle.anova.specs.Laws.Blocks.{degrees-moved, numerator-moved, each_left}
use Rattle.anova.specs.declared.types.Source.{Source}
use Rattle.anova.specs.Table.{block_amount, block_source, row_left, table_refused, source_of, within_source, joined, table_figures, table_rows, rows_of}
use Rattle.claims.specs.OneWalk.{total_in, EveryTotal, source_in, moving, AtEnd, OneWalk}

module _ {p : Plan} {readings : List ℤ} {marks : List ℕ} {totals : List ℤ} {rows : List ℕ} (a : TableReady p readings marks totals rows) where
  abbrev sums : List ℤ
  sums = run_sums_of p readings

  abbrev ts : List ℤ
  ts = totals_of (factors_of p) sums

  walkable : PlanWalkable p ts rows
  walkable = table-walkable (sums-ready a) a.rows_long

  every-total : EveryTotal p readings marks
  every-total =
      record {
        two-levels = λ l e low.
            let w = two-walks ts (kinds_of p marks) (rows_in p) (two-walkable walkable marks l) e (rw walkable.whole low) in
            let h = walking-agrees (two-agrees p a.plan marks ts (total_in p readings) (total-read p sums) l) (rw walkable.whole at w) in
            record { rows_are = rows-after p marks h; sums-are = sums-held h };
        three-levels = λ l e low.
            let w = three-walks ts (effect_rows p) (effect_weights p) (kinds_of p marks) (rows_in p) (three-walkable walkable marks) e
            (rw walkable.whole low) in
            let h = walking-agrees (three-agrees p a.plan marks ts (total_in p readings) (total-read p sums)) (rw walkable.whole at w) in
            record { rows_are = rows-after p marks h; sums-are = sums-held h };
      }

module _ (p : Plan) (readings : List ℤ) (marks : List ℕ) (totals : List ℤ) (rows : List ℕ) (e : table_refused p readings marks totals rows ≡ 0) where
  abbrev held : List ℤ
  held = run_sums_of p readings

  ok : plan_refused p ≡ 0
  ok = (table-admitted p readings marks totals rows e).plan

  -- a kind of the table, with what has left it, is what the walk has of that kind
  of-kind : (c : Kind) → joined (source_of p held marks c) (moving p readings marks c) ≡ source_in (sums_after p (total_in p readings) marks (runs_of p)) c
  unfolding joined
  of-kind c =
      let degrees-are = degrees-moved p ok held marks c ∙ sym (degrees-after-all p held marks c) in
      let numerator-is = numerator-moved p ok held marks c ∙ sym (numerator-after-all p held marks c) in
      λ i. record { degrees = degrees-are i; numerator = numerator-is i }

  -- where something joins the kind first
  joins : (s t u : Source) → joined (joined s t) u ≡ joined (joined s u) t
  unfolding joined
  joins s t u =
      let degrees-are : s.degrees + t.degrees + u.degrees ≡ s.degrees + u.degrees + t.degrees = omega arith in
      let numerator-is : s.numerator + t.numerator + u.numerator ≡ s.numerator + u.numerator + t.numerator = omega arith in
      λ i. record { degrees = degrees-are i; numerator = numerator-is i }

  with-more : (c : Kind) (t : Source) → joined (joined (source_of p held marks c) t) (moving p readings marks c)
      ≡ joined (source_in (sums_after p (total_in p readings) marks (runs_of p)) c) t
  with-more c t = joins (source_of p held marks c) t (moving p readings marks c) ∙ ap (λ (s : Source). joined s t) (of-kind c)

  written-rows : table_rows p readings marks totals rows ≡ rows_of p held
  unfolding table_rows
  written-rows = sym (written_new (table_refused p readings marks totals rows) (rows_of p held) rows e)

  row_written : (w : ℕ) → w < rows_in p
      → get_or (table_rows p readings marks totals rows) w 0 + cond (eqb w (word_row p)) (block_amount p held) 0 ≡ get_or (rows_after p (total_in p readings) (runs_of p)) w 0
  unfolding rows_of
  row_written w h =
      ap (λ (l : List ℕ). get_or l w 0 + cond (eqb w (word_row p)) (block_amount p held) 0) written-rows
      ∙ ap (λ n. n + cond (eqb w (word_row p)) (block_amount p held) 0) (get_or-tab 0 (rows_in p) (row_left p held) w h)
      ∙ each_left p ok w held
      ∙ sym (row-after-all p held w h)

  at-end : AtEnd p readings marks totals rows
  unfolding table_figures rows_of
  at-end =
      record {
        rows_long = ap length written-rows ∙ length-tab (rows_in p) (row_left p held);
        rows_written = row_written;
        mean = of-kind mean_row;
        kept = of-kind kept_row;
        blocks = with-more blocks_row (block_source p held);
        error = with-more error_row (within_source p readings);
        check = sym (totals-after-all p held marks);
      }

pub one-walk : OneWalk
one-walk p readings marks totals rows e =
    (every-total (table-admitted p readings marks totals rows e), at-end p readings marks totals rows e)
