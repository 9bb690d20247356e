-- The walk of a plan stays within its lists, and no sum wraps.
--
--   walkable-agrees             lists that agree with others can be walked where these can
--   two-walkable                so of the lists that are handed on at two levels
--   three-walkable              and at three
use Rattle.std.specs.Prelude.{◌≡◌, refl, List, ℕ, ◌*◌, ℤ, length, get_or}
use Rattle.std.proofs.Math.Nat.{mul-le-mul_left, mul-one}
use Rattle.std.proofs.Common.{arith}
use Rattle.std.proofs.Math.IntN.{nat_abs}
use Rattle.algebra.specs.Laws.Naturals.{Σℕ-cong}
use Rattle.contrasts.specs.Columns.{read}
use Rattle.contrasts.proofs.Laws.Divisors.{weight-pos}
use Rattle.contrasts.specs.Rows.{row_of}
use Rattle.contrasts.specs.Totals.{Column, numerator_of}
use Rattle.effects.specs.Effects.{effect_rows, effect_weights}
use Rattle.plan.specs.declared.types.Plan.{Plan}
use Rattle.plan.proofs.Laws.Sizes.{runs-few}
use Rattle.plan.specs.Plan.{factors_of, runs_of}
use Rattle.rows.specs.Kinds.{rows_in, kind_of, kinds_of}
use Rattle.rows.proofs.Laws.Kinds.{four-kinds}
use Rattle.walks.specs.After.{kind_at, numerator_at}
use Rattle.walks.specs.Ready.{PlanWalkable}
use Rattle.walks.specs.State.{code_at, square_at, numerator_by}
use Rattle.walks.specs.Inner.Ready.{Walkable}
use Rattle.walks.proofs.Laws.After.{Agree, row-there, two-agrees, three-agrees}

walkable-agrees : {row num kind : ℕ → ℕ} {t : Column} {row' num' kind' : ℕ → ℕ} {t' : Column} {n : ℕ}
    → Agree row num kind t row' num' kind' t' n → {r : ℕ} → Walkable row' num' kind' t' n r → Walkable row num kind t n r
walkable-agrees {n = n} a w =
    record {
      few = w.few;
      row-there = λ e h. rw (a.rows e h) (w.row-there e h);
      four-kinds = λ e h. rw (a.kinds e h) (w.four-kinds e h);
      squares = λ e h. rw (a.totals e h, a.numerators e h) (w.squares e h);
      sum_fits = rw (Σℕ-cong n a.numerators) w.sum_fits;
    }

module _ {p : Plan} {ts : List ℤ} {rows : List ℕ} (pre : PlanWalkable p ts rows) (marks : List ℕ) where
  by-plan : Walkable (row_of (factors_of p)) (numerator_at p (read ts)) (kind_at p marks) (read ts) (runs_of p) (rows_in p)
  unfolding numerator_of
  by-plan =
      record {
        few = omega (arith, runs-few p pre.plan);
        row-there = λ e h. row-there p e;
        four-kinds = λ e h. four-kinds (kind_of p marks (row_of (factors_of p) e));
        squares = λ e h.
            let q = nat_abs (read ts e) * nat_abs (read ts e) in
            omega (arith, mul-le-mul_left q (weight-pos (factors_of p) e), mul-one q);
        sum_fits = pre.sum_fits;
      }

  pub two-walkable : p.levels ≡ 2 → Walkable (λ i. i) (square_at ts) (λ i. code_at (kinds_of p marks) i) (read ts) (length ts) (rows_in p)
  two-walkable l = rw pre.whole (walkable-agrees (two-agrees p pre.plan marks ts (read ts) (λ i h. refl) l) by-plan)

  pub three-walkable : Walkable (λ i. get_or (effect_rows p) i 0) (numerator_by ts (effect_weights p))
      (λ i. code_at (kinds_of p marks) (get_or (effect_rows p) i 0)) (read ts) (length ts) (rows_in p)
  three-walkable = rw pre.whole (walkable-agrees (three-agrees p pre.plan marks ts (read ts) (λ i h. refl)) by-plan)
