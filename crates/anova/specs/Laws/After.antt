-- What rows and sums hold after all totals is what the table has by effects, and the totals that the walk is handed: those of the run sums.
--
--   rows-after-all, row-after-all            the rows, and each of them
--   numerator-after-all, degrees-after-all   numerator and degrees of each kind
--   totals-after-all                         the sum of the totals
--   total-read, table-walkable               the totals that are handed to the walk: it can go over them, and no sum wraps
use Rattle.std.specs.Prelude.{◌≡◌, ℕ, ◌*◌, ◌<◌, ℤ, pos, length}
use Rattle.std.proofs.Math.Path.{refl, sym, ap}
use Rattle.std.proofs.Common.{◌∙◌, arith}
use mathlib.Core.List.{List}
use Rattle.std.proofs.Math.ListN.{get_or}
use Rattle.algebra.specs.Laws.Naturals.{Σℕ-cong}
use Rattle.algebra.specs.Laws.Tab.{length-tab, get_or-tab}
use Rattle.algebra.specs.Naturals.{Σℕ}
use Rattle.algebra.specs.Sorted.{sum_at}
use Rattle.contrasts.specs.Columns.{read, totals_of}
use Rattle.contrasts.specs.Rows.{row_numerator}
use Rattle.contrasts.proofs.Laws.Rows.{numerators-of-kind, degrees-of-kind}
use Rattle.contrasts.proofs.Laws.Squares.{numerators}
use Rattle.contrasts.specs.Totals.{total, denominator, numerator_of, squared}
use Rattle.plan.specs.declared.types.Plan.{Plan}
use Rattle.plan.proofs.Laws.Limits.{numerator-fits}
use Rattle.plan.specs.Plan.{factors_of, runs_of}
use Rattle.rows.specs.Kinds.{rows_in, Kind, kind_of, code_of}
use Rattle.rows.proofs.Laws.Kinds.{four-kinds}
use Rattle.walks.specs.After.{kind_at, numerator_at, rows_after, sums_by, sums_after}
use Rattle.walks.specs.Ready.{PlanWalkable}
use Rattle.anova.specs.Inner.Effects.{effect_source, rows_by_effects}
use Rattle.anova.specs.Laws.Admitted.{SumsReady, rows-power, within-limit}
use Rattle.anova.specs.Table.{checks_of}

module _ (p : Plan) (sums : List ℤ) where
  pub rows-after-all : rows_after p (total (factors_of p) (read sums)) (runs_of p) ≡ rows_by_effects p sums
  unfolding rows_after rows_by_effects
  rows-after-all = refl

  pub row-after-all : (w : ℕ) → w < rows_in p
      → get_or (rows_after p (total (factors_of p) (read sums)) (runs_of p)) w 0 ≡ row_numerator (factors_of p) (read sums) w
  unfolding rows_by_effects
  row-after-all w h = ap (λ (rows : List ℕ). get_or rows w 0) rows-after-all ∙ get_or-tab 0 (rows_in p) (row_numerator (factors_of p) (read sums)) w h

  pub totals-after-all : (marks : List ℕ) → (sums_after p (total (factors_of p) (read sums)) marks (runs_of p)).totals ≡ (checks_of p sums).totals
  unfolding sums_by checks_of
  totals-after-all marks = refl

  module _ (marks : List ℕ) (c : Kind) where
    -- the number of a row's kind
    abbrev code : ℕ → ℕ
    code w = code_of (kind_of p marks w)

    pub numerator-after-all : get_or (sums_after p (total (factors_of p) (read sums)) marks (runs_of p)).numerators (code_of c) 0
        ≡ (effect_source p sums marks c).numerator
    unfolding sums_by effect_source
    numerator-after-all =
        get_or-tab 0 4 (sum_at (kind_at p marks) (numerator_at p (total (factors_of p) (read sums))) (runs_of p)) (code_of c) (four-kinds c)
        ∙ sym (rw (rows-power p) at (numerators-of-kind (factors_of p) code (code_of c) (read sums)))

    pub degrees-after-all : get_or (sums_after p (total (factors_of p) (read sums)) marks (runs_of p)).degrees (code_of c) 0
        ≡ (effect_source p sums marks c).degrees
    unfolding sums_by effect_source
    degrees-after-all =
        get_or-tab 0 4 (sum_at (kind_at p marks) (λ i. 1) (runs_of p)) (code_of c) (four-kinds c)
        ∙ sym (rw (rows-power p) at (degrees-of-kind (factors_of p) code (code_of c)))

-- ---- the totals that are handed to the walk

-- a total, as the column has it
pub total-read : (p : Plan) (sums : List ℤ) (i : ℕ) → i < runs_of p → read (totals_of (factors_of p) sums) i ≡ total (factors_of p) (read sums) i
unfolding totals_of
total-read p sums i h = get_or-tab (pos 0) (runs_of p) (total (factors_of p) (read sums)) i h

module _ {p : Plan} {sums : List ℤ} (a : SumsReady p sums) where
  -- the sum of all numerators, which is within the limit of numerators
  all-numerators : Σℕ (runs_of p) (numerator_at p (read (totals_of (factors_of p) sums))) ≡ denominator (factors_of p) * squared (factors_of p) (read sums)
  all-numerators =
      Σℕ-cong (runs_of p) (λ i h. ap (numerator_of (factors_of p) i) (total-read p sums i h)) ∙ numerators (factors_of p) (read sums)

  pub table-walkable : {rows : List ℕ} → length rows ≡ rows_in p → PlanWalkable p (totals_of (factors_of p) sums) rows
  unfolding totals_of
  table-walkable long =
      record {
        plan = a.plan;
        whole = length-tab (runs_of p) (total (factors_of p) (read sums));
        rows_long = long;
        sum_fits = rw all-numerators (omega (arith, within-limit a, numerator-fits p));
      }
