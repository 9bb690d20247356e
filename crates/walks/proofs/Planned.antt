-- The walk of a plan: what the loops are handed, and what they make.
--
--   two_ready, three-ready   the loops stay within their lists, and no sum wraps
--   two_made, three_made     what they leave are the plan's rows and sums after all totals
use mathlib.Core.Path.{◌≡◌, refl, sym, ◌∙◌, ap}
use mathlib.Core.List.{List}
use Prim.Native.Nat.{ℕ, suc, ◌*◌, ◌-◌, ◌^◌, ◌<◌}
use native.Mathlib.Nat.{pow-succ'}
use native.Mathlib.Omega.{arith}
use lib.IntN.{ℤ}
use lib.ListN.{length}
use Rattle.algebra.specs.Laws.Tab.{length-tab}
use Rattle.contrasts.specs.Columns.{read}
use Rattle.contrasts.specs.Rows.{row_of}
use Rattle.effects.specs.Effects.{effect_rows, effect_weights}
use Rattle.plan.specs.declared.types.Plan.{Plan}
use Rattle.plan.proofs.Laws.Accepted.{accepted}
use Rattle.plan.proofs.Laws.Sizes.{runs-few, runs-two}
use Rattle.plan.specs.Plan.{factors_of, runs_of}
use Rattle.rows.specs.Kinds.{rows_in, Kind, kinds_of}
use Rattle.rows.proofs.Laws.Rows.{rows_few}
use Rattle.walks.specs.declared.types.Sums.{Sums}
use Rattle.walks.specs.After.{kind_at, numerator_at, rows_after, sums_after}
use Rattle.walks.specs.Ready.{PlanWalkable}
use Rattle.walks.specs.State.{zeros}
use Rattle.walks.specs.Inner.Ready.{WalkableTwo, WalkableThree}
use Rattle.walks.specs.Inner.Walk.{Walked, WalkedTwo, WalkedThree}
use Rattle.walks.proofs.Laws.After.{walked-agrees, two-agrees, three-agrees}
use Rattle.walks.proofs.Laws.Plans.{two-walkable, three-walkable}

halves : (k : ℕ) → 0 < k → 2 ^ k ≡ 2 * 2 ^ (k - 1)
halves k h = let e : k ≡ suc (k - 1) = omega arith in ap (λ n. 2 ^ n) e ∙ pow-succ' 2 (k - 1)

module _ {p : Plan} {ts : List ℤ} {rows : List ℕ} (pre : PlanWalkable p ts rows) (marks : List ℕ) {rs : List ℕ} (cleared : rs ≡ zeros (length rows)) where
  rows-count : length rs ≡ rows_in p
  unfolding zeros
  rows-count = rw cleared (length-tab (length rows) (λ w. 0)) ∙ pre.rows_long

  all-zero : rs ≡ zeros (length rs)
  all-zero = cleared ∙ ap zeros (pre.rows_long ∙ sym rows-count)

  all_made : {s : Sums} {zs : List ℕ}
      → Walked (row_of (factors_of p)) (numerator_at p (read ts)) (kind_at p marks) (read ts) (runs_of p) (rows_in p) s zs
      → (s ≡ sums_after p (read ts) marks (runs_of p)) × (zs ≡ rows_after p (read ts) (runs_of p))
  unfolding rows_after
  all_made w = (w.sums-are, w.rows_are)

  module _ {kinds : List Kind} (kinds-are : kinds ≡ kinds_of p marks) where
    kinds-count : length kinds ≡ 1024
    unfolding kinds_of
    kinds-count = rw kinds-are (length-tab 1024 _)

    -- ---- two levels

    module _ (l : p.levels ≡ 2) where
      pub two_ready : WalkableTwo ts kinds rs
      two_ready =
          record {
            pairs = 2 ^ (p.k - 1);
            in_pairs = pre.whole ∙ runs-two p l ∙ halves p.k (accepted p pre.plan).factors.0;
            kinds-long = omega (arith, pre.whole, kinds-count, runs-few p pre.plan);
            cleared = all-zero;
            walkable = rw (kinds-are, rows-count) (two-walkable pre marks l);
          }

      pub two_made : {s : Sums} {zs : List ℕ} → WalkedTwo ts kinds (length rs) s zs
          → (s ≡ sums_after p (read ts) marks (runs_of p)) × (zs ≡ rows_after p (read ts) (runs_of p))
      two_made w =
          all_made (walked-agrees (two-agrees p pre.plan marks ts (read ts) (λ i h. refl) l) (rw (pre.whole, kinds-are, rows-count) at w))

    -- ---- three levels

    module _ {effects weights : List ℕ} (effects-are : effects ≡ effect_rows p) (weights-are : weights ≡ effect_weights p) where
      pub three-ready : WalkableThree ts effects weights kinds rs
      unfolding effect_rows effect_weights
      three-ready =
          record {
            effects-long = rw (pre.whole, effects-are, length-tab 1024 _) (runs-few p pre.plan);
            weights-long = rw (pre.whole, weights-are, length-tab 1024 _) (runs-few p pre.plan);
            kinds-long = omega (arith, rows-count, kinds-count, rows_few p pre.plan);
            cleared = all-zero;
            walkable = rw (kinds-are, effects-are, weights-are, rows-count) (three-walkable pre marks);
          }

      pub three_made : {s : Sums} {zs : List ℕ} → WalkedThree ts effects weights kinds (length rs) s zs
          → (s ≡ sums_after p (read ts) marks (runs_of p)) × (zs ≡ rows_after p (read ts) (runs_of p))
      three_made w =
          all_made (walked-agrees (three-agrees p pre.plan marks ts (read ts) (λ i h. refl))
          (rw (pre.whole, kinds-are, effects-are, weights-are, rows-count) at w))
