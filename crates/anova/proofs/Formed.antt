-- What the table call hands to the passes and to the walk, and what they make of it.
--
--   readings-ready        the run sums can be passed over
--   totals-made           the totals, as the passes leave them
--   walk-ready            the walk stays within its slices, and no sum wraps
--   sums-made, rows_made  what it leaves are the sums of the effects, and their rows
use mathlib.Core.Path.{◌≡◌, refl, ◌∙◌}
use mathlib.Core.List.{List}
use Prim.Native.Nat.{ℕ, ◌<◌}
use lib.IntN.{ℤ}
use lib.ListN.{length, replicate}
use Rattle.contrasts.specs.Columns.{read, totals_of, run_sums_in}
use Rattle.contrasts.proofs.Factors.{of_levels}
use Rattle.contrasts.specs.Totals.{total}
use Rattle.plan.specs.declared.types.Plan.{Plan}
use Rattle.plan.specs.Plan.{factors_of, runs_of, run_sums_of}
use Rattle.passes.specs.Laws.Plans.{plan-readings}
use Rattle.passes.specs.Ready.{RunReadings}
use Rattle.walks.specs.declared.types.Sums.{Sums}
use Rattle.walks.specs.After.{rows_after, sums_after}
use Rattle.walks.specs.Ready.{PlanWalkable}
use Rattle.walks.proofs.Laws.After.{rows_agree, sums-agree}
use Rattle.anova.specs.Inner.Effects.{rows_by_effects}
use Rattle.anova.specs.Laws.Admitted.{TableReady, sums-ready}
use Rattle.anova.specs.Laws.After.{rows-after-all, total-read, table-walkable}

module _ {p : Plan} {readings : List ℤ} {marks : List ℕ} {totals : List ℤ} {rows : List ℕ} (a : TableReady p readings marks totals rows) where
  abbrev sums : List ℤ
  sums = run_sums_of p readings

  pub readings-ready : RunReadings p.levels p.k p.repeats readings totals
  readings-ready = plan-readings (record { plan = a.plan; whole = a.whole; same = a.same; within = a.within })

  pub totals-made : {ts : List ℤ} → ts ≡ totals_of (replicate p.k (of_levels p.levels)) (run_sums_in (length totals) p.repeats readings)
      → ts ≡ totals_of (factors_of p) sums
  unfolding factors_of
  totals-made e = e ∙ rw a.same refl

  module _ {ts : List ℤ} (made : ts ≡ totals_of (factors_of p) sums) where
    pub walk-ready : PlanWalkable p ts rows
    walk-ready = rw made (table-walkable (sums-ready a) a.rows_long)

    total-is : (i : ℕ) → i < runs_of p → read ts i ≡ total (factors_of p) (read sums) i
    total-is i h = rw made (total-read p sums i h)

    pub sums-made : {s : Sums} → s ≡ sums_after p (read ts) marks (runs_of p) → s ≡ sums_after p (total (factors_of p) (read sums)) marks (runs_of p)
    sums-made e = e ∙ sums-agree p total-is marks

    pub rows_made : {zs : List ℕ} → zs ≡ rows_after p (read ts) (runs_of p) → zs ≡ rows_by_effects p sums
    rows_made e = e ∙ rows_agree p total-is ∙ rows-after-all p sums
