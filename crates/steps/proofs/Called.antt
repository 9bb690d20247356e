-- The step call: what it hands to the inner functions, and what these make.
--
--   step-ready    two columns of N are columns of sets
--   step-made     the column that the inner functions write is the call's
use mathlib.Core.Path.{◌≡◌, refl, sym, ◌∙◌, ap}
use mathlib.Core.List.{List}
use Prim.Native.Nat.{ℕ, ◌-◌, ◌*◌, ◌/◌, ◌^◌}
use native.Mathlib.Nat.{pow-succ', one-le-pow, mul-div_right}
use native.Mathlib.Omega.{arith}
use lib.IntN.{ℤ}
use lib.ListN.{length}
use Rattle.contrasts.specs.Columns.{step_of}
use Rattle.contrasts.specs.Factor.{Factor}
use Rattle.contrasts.specs.Limits.{value_limit}
use Rattle.contrasts.proofs.Factors.{of_levels}
use Rattle.contrasts.proofs.Laws.Levels.{some-levels}
use Rattle.plan.specs.declared.types.Plan.{Plan}
use Rattle.plan.specs.Plan.{runs_of}
use Rattle.plan.proofs.Laws.Accepted.{accepted}
use Rattle.plan.proofs.Laws.Sizes.{as-power, plan-kind}
use Rattle.columns.specs.Laws.Admitted.{Columns}
use Rattle.steps.specs.Inner.Ready.{Sets}

module _ {p : Plan} {from to : List ℤ} (a : Columns value_limit p from to) {l : ℕ} (e : p.levels ≡ l) where
  kind : (of_levels l).levels ≡ l
  kind = rw (← e) (plan-kind p a.plan)

  -- the number of runs, as sets of successive values
  in-sets : length from ≡ l * l ^ (p.k - 1)
  in-sets =
      as-power p a.plan a.whole
      ∙ rw (e, ← (pow-succ' l (p.k - 1))) (ap (λ n. l ^ n) (omega (arith, (accepted p a.plan).factors.0)))

  sets-are : length from / l ≡ l ^ (p.k - 1)
  sets-are = rw in-sets (mul-div_right (l ^ (p.k - 1)) (some-levels l kind))

  pub step-ready : Sets l (length from / l) from to
  step-ready =
      rw sets-are
      (record {
        kind = kind;
        some = one-le-pow (p.k - 1) l (some-levels l kind);
        whole = in-sets;
        same = a.same ∙ sym a.whole ∙ in-sets;
        within = a.within;
      })

  pub step-made : {F : Factor} → of_levels p.levels ≡ F → {ys : List ℤ} → ys ≡ step_of (length from) F from
      → ys ≡ step_of (runs_of p) (of_levels p.levels) from
  step-made d m = m ∙ rw (a.whole, d) refl
