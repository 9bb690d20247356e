-- That the claim `TableAddsUp` holds.
--
--   formed           each of the four is formed as the rules say
--   table-adds-up    the proof
use Rattle.std.specs.Prelude.{◌≡◌, refl, cond, List, ℕ, ◌+◌, ◌<◌, eqb, ℤ, pos, get_or}
use Rattle.std.proofs.Common.{sym, ap, ◌∙◌}
use Rattle.algebra.specs.Naturals.{Σℕ}
use Rattle.algebra.specs.Laws.Naturals.{Σℕ-cong}
use Rattle.algebra.specs.Sorted.{sum_at}
use Rattle.algebra.specs.Laws.Tab.{get_or-tab}
use Rattle.contrasts.specs.Columns.{read, totals_of}
use Rattle.contrasts.specs.Rows.{row_of}
use Rattle.contrasts.specs.Totals.{total, numerator_of}
use Rattle.contrasts.proofs.Laws.CheckSum.{check-rounds}
use Rattle.contrasts.proofs.Laws.Repeats.{same-weight}
use Rattle.plan.specs.declared.types.Plan.{Plan}
use Rattle.plan.specs.Check.{plan_refused}
use Rattle.plan.specs.Plan.{factors_of, runs_of, run_sums_of}
use Rattle.plan.proofs.Laws.Answers.{written_new}
use Rattle.plan.proofs.Laws.Sizes.{some-repeat}
use Rattle.rows.specs.Kinds.{rows_in, Kind, mean_row, blocks_row, error_row, kept_row, kind_of, same}
use Rattle.anova.specs.Laws.Admitted.{TableReady, table-admitted, sums-ready}
use Rattle.anova.specs.Laws.Blocks.{each_left, each-degrees}
use Rattle.anova.specs.Table.{block_amount, block_source, row_left, table_refused, source_of, within_source, joined, total_source, checks_of, table_figures, table_totals, table_rows, rows_of}
use Rattle.anova.specs.Laws.Within.{numerators-add-up, degrees-add-up, fit, some-within, row_within, kind-within, blocks-within, error-within, total-source-within, within-source-within, total-within-limit, checks-within}
use Rattle.claims.specs.SumOfSquares.{numerator_in, squares_within}
use Rattle.claims.specs.TableAddsUp.{of_kind, leaving, Formed, AddsUp, NoneBeyond, TableAddsUp}

-- what is written, and what is summed, of run sums
by-rows : (p : Plan) (sums : List ℤ) (marks : List ℕ) (c : Kind) → (source_of p sums marks c).numerator ≡ of_kind p marks (rows_of p sums) c
unfolding source_of rows_of
by-rows p sums marks c =
    Σℕ-cong (rows_in p) (λ w h. ap (λ (n : ℕ). cond (same (kind_of p marks w) c) n 0) (sym (get_or-tab 0 (rows_in p) (row_left p sums) w h)))

row-formed : (p : Plan) → plan_refused p ≡ 0 → (sums : List ℤ) (w : ℕ) → w < rows_in p
    → get_or (rows_of p sums) w 0 + leaving p w (block_amount p sums)
    ≡ Σℕ (runs_of p) (λ e. cond (eqb (row_of (factors_of p) e) w) (numerator_in p (totals_of (factors_of p) sums) e) 0)
unfolding rows_of sum_at totals_of numerator_of
row-formed p ok sums w h =
    ap (λ n. n + leaving p w (block_amount p sums)) (get_or-tab 0 (rows_in p) (row_left p sums) w h)
    ∙ each_left p ok w sums
    ∙ Σℕ-cong (runs_of p) (λ e l.
    rw (get_or-tab (pos 0) (runs_of p) (total (factors_of p) (read sums)) e l, same-weight (factors_of p) p.repeats e (some-repeat p ok).0) refl)

pub formed : (p : Plan) (readings : List ℤ) (marks : List ℕ) (totals : List ℤ) (rows : List ℕ) → table_refused p readings marks totals rows ≡ 0
    → Formed p readings marks (table_totals p readings marks totals rows) (table_rows p readings marks totals rows) (table_figures p readings marks)
unfolding table_figures table_totals table_rows source_of block_source within_source joined
formed p readings marks totals rows e =
    let sums = run_sums_of p readings in
    let ok = (table-admitted p readings marks totals rows e).plan in
    let new = written_new (table_refused p readings marks totals rows) (rows_of p sums) rows e in
    let new_totals = written_new (table_refused p readings marks totals rows) (totals_of (factors_of p) sums) totals e in
    rw (← new, ← new_totals)
    (record {
      each_row = row-formed p ok sums;
      each-degrees = each-degrees p ok;
      degrees = (refl, refl, refl, refl);
      mean = by-rows p sums marks mean_row;
      kept = by-rows p sums marks kept_row;
      blocks = ap (λ (n : ℕ). n + block_amount p sums) (by-rows p sums marks blocks_row);
      error = ap (λ (n : ℕ). n + squares_within p readings) (by-rows p sums marks error_row);
      totals-of-sums = refl;
      over = refl;
    })

module _ {p : Plan} {readings : List ℤ} {marks : List ℕ} {totals : List ℤ} {rows : List ℕ} (a : TableReady p readings marks totals rows) where
  abbrev sums : List ℤ
  sums = run_sums_of p readings

  adds-up : AddsUp p readings (table_figures p readings marks)
  unfolding table_figures total_source checks_of
  adds-up =
      record {
        numerators = numerators-add-up a;
        total = refl;
        degrees = degrees-add-up a;
        total-degrees = refl;
        checks = check-rounds (factors_of p) (read sums);
      }

  none-beyond : NoneBeyond p readings (table_figures p readings marks)
  unfolding table_figures totals_of rows_of within_source
  none-beyond =
      let s = sums-ready a in
      record {
        totals = λ e h. rw (get_or-tab (pos 0) (runs_of p) (total (factors_of p) (read sums)) e h) (total-within-limit s e h);
        some-numerators = some-within s;
        within = (within-source-within a).numerator;
        rows = λ w h. rw (get_or-tab 0 (rows_in p) (row_left p sums) w h) (row_within s w);
        denominator = (fit s).0;
        mean = kind-within s marks mean_row;
        kept = kind-within s marks kept_row;
        blocks = blocks-within a;
        error = error-within a;
        total = total-source-within a;
        checks = checks-within s;
      }

pub table-adds-up : TableAddsUp
table-adds-up p readings marks totals rows e =
    let a = table-admitted p readings marks totals rows e in
    (formed p readings marks totals rows e, adds-up a, none-beyond a)
