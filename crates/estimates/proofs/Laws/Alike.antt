-- Places beyond a plan's counts are ignored by the estimate call too.
--
--   same-refused, same-value    plans that agree as far as their counts reach get the same answer
use Rattle.std.specs.Prelude.{◌≡◌, ℕ, ℤ}
use Rattle.std.proofs.Math.Path.{refl}
use Rattle.plan.specs.declared.types.Plan.{Plan}
use Rattle.plan.specs.Check.{with_plan}
use Rattle.plan.proofs.Laws.Alike.{Alike, same-refused as same-plan-refused, same-limit}
use Rattle.estimates.specs.Estimate.{estimate_refused, estimate_value}

module _ {p q : Plan} (a : Alike p q) (e : ℕ) (t : ℤ) where
  pub same-refused : estimate_refused p e t ≡ estimate_refused q e t
  unfolding estimate_refused with_plan
  same-refused = rw (same-limit a, same-plan-refused a, a.levels, a.k, a.repeats) refl

  pub same-value : estimate_value p e t ≡ estimate_value q e t
  same-value = rw (a.blockwords, a.k, a.repeats) refl
