-- The pass call: what it hands to the pass, and what this makes.
--
--   pass-ready    the column falls into stretches of the factor
--   pass-made     what the pass makes is the factor's pass of the plan
use mathlib.Core.Path.{◌≡◌, refl, sym, ◌∙◌}
use mathlib.Core.List.{List}
use Prim.Native.Nat.{ℕ}
use lib.IntN.{ℤ}
use lib.ListN.{length-replicate, get_or-replicate}
use Rattle.contrasts.specs.Columns.{pass_of}
use Rattle.contrasts.proofs.Factors.{of_levels}
use Rattle.contrasts.proofs.Laws.Lists.{pass-over}
use Rattle.contrasts.proofs.Laws.Small.{value-mild}
use Rattle.contrasts.proofs.Laws.Stretches.{pass_over}
use Rattle.plan.specs.declared.types.Plan.{Plan}
use Rattle.plan.specs.Check.{spacing_at}
use Rattle.plan.specs.Plan.{factors_of}
use Rattle.plan.proofs.Laws.Accepted.{accepted}
use Rattle.plan.proofs.Laws.Sizes.{as-power, spacing-power, spacing-is, plan-kind}
use Rattle.passes.specs.Ready.{Stretches}
use Rattle.passes.specs.Laws.Powers.{in-stretches}
use Rattle.yates.specs.Laws.Admitted.{PassAdmitted}

module _ {p : Plan} {f : ℕ} {xs : List ℤ} (a : PassAdmitted p f xs) {s : ℕ} (e : s ≡ spacing_at p f) where
  pub pass-ready : Stretches p.levels s xs
  pass-ready =
      in-stretches p.levels f p.k s xs (plan-kind p a.plan) a.base
      (e ∙ spacing-is p f a.plan a.base ∙ spacing-power p f (accepted p a.plan).levels a.base)
      (as-power p a.plan a.whole) (value-mild xs a.within)

  pub pass-made : {ys : List ℤ} → ys ≡ pass_over s (of_levels p.levels) xs → ys ≡ pass_of (factors_of p) f xs
  unfolding factors_of
  pass-made d =
      d
      ∙ rw (e ∙ spacing-is p f a.plan a.base) (sym (
      pass-over (factors_of p) f (of_levels p.levels) xs a.whole (rw (length-replicate p.k (of_levels p.levels)) a.base)
      ∙ rw (get_or-replicate p.k f (of_levels p.levels) (of_levels p.levels) a.base) refl))
