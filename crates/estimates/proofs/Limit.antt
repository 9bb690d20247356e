-- The limit of a total, as code forms it: that of a run sum, moved on by k bits.
--
--   run_fits    up to 8 times the limit of a reading fits
--   shifted     moved on, it does not wrap
use mathlib.Core.Path.{◌≡◌, ◌∙◌}
use Prim.Native.Nat.{ℕ, ◌*◌, ◌%◌, ◌^◌, ◌<◌, ◌≤◌}
use native.Mathlib.Nat.{mul_comm, mod-eq_of_lt}
use native.Mathlib.Omega.{arith}
use Rattle.contrasts.specs.Limits.{two_reading_limit}
use Rattle.plan.specs.declared.types.Plan.{Plan}
use Rattle.plan.specs.Check.{plan_refused}
use Rattle.plan.specs.Limits.{reading_limit, run_limit}
use Rattle.plan.proofs.Laws.Limits.{limit-two}
use Rattle.plan.proofs.Laws.Sizes.{runs-two, readings-few}
use Rattle.estimates.specs.Estimate.{total_limit}

module _ (p : Plan) (two : p.levels ≡ 2) where
  pub run_fits : {l : ℕ} → l ≡ reading_limit p → (r : ℕ) → r ≤ 8 → r * l < 2 ^ 32
  unfolding two_reading_limit
  run_fits e r h = rw (e, limit-two p two) (omega (arith, h))

  pub shifted : plan_refused p ≡ 0 → run_limit p * 2 ^ p.k % 2 ^ 32 ≡ total_limit p
  unfolding two_reading_limit
  shifted ok =
      let few : 2 ^ p.k * p.repeats ≤ 1024 = rw (runs-two p two) at (readings-few p ok) in
      rw (limit-two p two) (mod-eq_of_lt (omega (arith, few)) ∙ mul_comm (p.repeats * two_reading_limit) (2 ^ p.k))
