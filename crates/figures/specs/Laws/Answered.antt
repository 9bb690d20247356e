-- The whole call step by step: length by length, and by what the call for the table answers. `Roomed` has it at once.
--
--   figures-wrong, by-checks          whether there is room, length by length
--   Answered m p .. answer ts rs      a call whose number is m has this answer, and leaves these totals and rows
--   table-answered, screen-answered   the table call and the screening call
--   table-made, table-refused         the whole call, by that answer
use Rattle.std.specs.Prelude.{Result, Ok, Err, ◌≡◌, refl, true, not, List, ℕ, eqb, ℤ}
use Rattle.std.proofs.Common.{sym, ap, ◌∙◌, eq-eqb, ne_eqb}
use Rattle.contrasts.specs.Columns.{totals_of}
use Rattle.plan.specs.declared.types.Plan.{Plan}
use Rattle.plan.specs.declared.refusals.Refusal as refusals
use Rattle.plan.specs.Outcome.{outcome, written}
use Rattle.plan.specs.Plan.{factors_of, run_sums_of}
use Rattle.plan.specs.Refusals.{number}
use Rattle.anova.specs.declared.types.Figures.{Figures}
use Rattle.anova.specs.Table.{table_refused, table_figures, table_totals, table_rows, table_outcome, rows_of}
use Rattle.screening.specs.Screening.{screen_refused, screen_totals, screen_rows}
use Rattle.figures.specs.Numbers.{figure_numbers, check_numbers, wrong_room, TableLeft}
use Rattle.figures.specs.Laws.Roomed.{answered}

-- ---- the lengths

module _ (m n : ℕ) where
  pub figures-wrong : (m ≡ 11 → ⊥) → true ≡ wrong_room m n
  unfolding wrong_room
  figures-wrong h = rw (ne_eqb m 11 h) refl

  pub by-checks : m ≡ 11 → not (eqb n 2) ≡ wrong_room m n
  unfolding wrong_room
  by-checks h = rw (eq-eqb m 11 h) refl

-- ---- the answer

module _ (m : ℕ) (p : Plan) (readings : List ℤ) (marks : List ℕ) (totals : List ℤ) (rows : List ℕ) where
  pub record Answered (answer : Result Figures refusals.Refusal) (ts : List ℤ) (rs : List ℕ) : Type 0 where
    pub told : table_outcome answer ≡ outcome m (table_figures p readings marks)
    pub totals-left : ts ≡ written m (totals_of (factors_of p) (run_sums_of p readings)) totals
    pub rows_left : rs ≡ written m (rows_of p (run_sums_of p readings)) rows

module _ {p : Plan} {readings : List ℤ} {marks : List ℕ} {totals : List ℤ} {rows : List ℕ}
    {answer : Result Figures refusals.Refusal} {ts : List ℤ} {rs : List ℕ} where
  pub table-answered : (table_outcome answer ≡ outcome (table_refused p readings marks totals rows) (table_figures p readings marks))
      × ((ts ≡ table_totals p readings marks totals rows) × (rs ≡ table_rows p readings marks totals rows))
      → Answered (table_refused p readings marks totals rows) p readings marks totals rows answer ts rs
  unfolding table_totals table_rows
  table-answered e = record { told = e.0; totals-left = e.1.0; rows_left = e.1.1 }

  pub screen-answered : (table_outcome answer ≡ outcome (screen_refused p readings marks totals rows) (table_figures p readings marks))
      × ((ts ≡ screen_totals p readings marks totals rows) × (rs ≡ screen_rows p readings marks totals rows))
      → Answered (screen_refused p readings marks totals rows) p readings marks totals rows answer ts rs
  unfolding screen_totals screen_rows
  screen-answered e = record { told = e.0; totals-left = e.1.0; rows_left = e.1.1 }

module _ {m : ℕ} {p : Plan} {readings : List ℤ} {marks : List ℕ} {totals : List ℤ} {rows figures : List ℕ} {checks : List ℤ}
    {answer : Result Figures refusals.Refusal} {ts : List ℤ} {rs : List ℕ} (a : Answered m p readings marks totals rows answer ts rs) where
  pub table-made : {f : Figures} → answer ≡ Ok f → {fs : List ℕ} {cs : List ℤ} → fs ≡ figure_numbers f → cs ≡ check_numbers f
      → TableLeft m p readings marks totals rows figures checks 0 ts rs fs cs
  table-made {f} is numbers sums = answered a.totals-left a.rows_left (Ok f) (ap table_outcome (sym is) ∙ a.told) refl numbers sums

  pub table-refused : {r : refusals.Refusal} {n : ℕ} → answer ≡ Err r → n ≡ number r
      → TableLeft m p readings marks totals rows figures checks n ts rs figures checks
  table-refused {r} is own = answered a.totals-left a.rows_left (Err r) (ap table_outcome (sym is) ∙ a.told) own refl refl
