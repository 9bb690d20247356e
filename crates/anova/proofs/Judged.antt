-- What the table call refuses, as the code judges it.
--
--   lengths_are                       refusal 11 of an accepted plan, by the counts that the code compares with
--   table-stopped, table-completed    a call that is refused, and one that is not
use mathlib.Core.Path.{◌≡◌, refl, ◌∙◌, ap}
use mathlib.Core.Bool.{not, ◌||◌}
use mathlib.Core.List.{List}
use Prim.Native.Nat.{ℕ}
use lib.Dec.{eqb}
use lib.IntN.{ℤ}
use Rattle.contrasts.specs.Columns.{totals_of}
use Rattle.plan.specs.declared.types.Plan.{Plan}
use Rattle.plan.specs.Check.{plan_refused, run_count, reading_count}
use Rattle.plan.specs.declared.refusals.Refusal.{Refusal}
use Rattle.plan.specs.Refusals.{number}
use Rattle.plan.proofs.Laws.Answers.{stops, completed}
use Rattle.plan.specs.Outcome.{Outcome, given, refused, outcome}
use Rattle.plan.specs.Plan.{factors_of, all_readings, run_sums_of}
use Rattle.plan.proofs.Laws.Sizes.{run-count, reading-count}
use Rattle.columns.specs.Refusals.{wrong_length, wrong_readings}
use Rattle.rows.specs.Kinds.{row_count, wrong_rows}
use Rattle.rows.proofs.Laws.Rows.{row-count}
use Rattle.anova.specs.declared.types.Figures.{Figures}
use Rattle.anova.specs.Table.{wrong_lengths, table_refused, table_figures, table_totals, table_rows, rows_of}

-- ---- refusal 11

pub lengths_are : (p : Plan) (readings marks totals rows : ℕ) → plan_refused p ≡ 0
    → wrong_lengths p readings marks totals rows
    ≡ (not (eqb readings (reading_count p)) || (not (eqb totals (run_count p)) || (not (eqb rows (row_count p)) || not (eqb marks (row_count p)))))
unfolding wrong_lengths wrong_readings wrong_length wrong_rows
lengths_are p readings marks totals rows ok = rw (reading-count p ok, run-count p ok, row-count p ok) refl

-- ---- the whole call

module _ (p : Plan) (readings : List ℤ) (marks : List ℕ) (totals : List ℤ) (rows : List ℕ) where
  -- what the call promises of its answer and of the two slices
  abbrev Told : Outcome Figures → List ℤ → List ℕ → Type 0
  Told answer ts rs = record {
    result_value : answer ≡ outcome (table_refused p readings marks totals rows) (table_figures p readings marks);
    totals_after : ts ≡ table_totals p readings marks totals rows;
    rows_after : rs ≡ table_rows p readings marks totals rows;
  }

  pub table-stopped : (r : Refusal) → number r ≡ table_refused p readings marks totals rows → Told (refused (number r)) totals rows
  unfolding table_totals table_rows
  table-stopped r e =
      let s = stops r (table_figures p readings marks) (totals_of (factors_of p) (run_sums_of p readings)) totals e in
      record { result_value = s.0; totals_after = s.1; rows_after = (stops r (table_figures p readings marks) (rows_of p (run_sums_of p readings)) rows e).1 }

  pub table-completed : table_refused p readings marks totals rows ≡ 0 → {figures : Figures} {ts : List ℤ} {rs : List ℕ} → figures ≡ table_figures p readings marks
      → ts ≡ totals_of (factors_of p) (run_sums_of p readings) → rs ≡ rows_of p (run_sums_of p readings) → Told (given figures) ts rs
  unfolding table_totals table_rows
  table-completed z f t r =
      let s = completed (table_figures p readings marks) (totals_of (factors_of p) (run_sums_of p readings)) totals z t in
      record { result_value = ap given f ∙ s.0; totals_after = s.1; rows_after = (completed (table_figures p readings marks) (rows_of p (run_sums_of p readings)) rows z r).1 }
