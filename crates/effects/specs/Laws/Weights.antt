-- The weights of the effects of an accepted plan.
--
--   weights-are    each is the plan's denominator over the effect's divisor, both multiplied by r
use Rattle.std.specs.Prelude.{◌≡◌, ℕ, ◌/◌, ◌<◌, get_or}
use Rattle.std.proofs.Common.{sym, ◌∙◌, arith, lt-ltb}
use Rattle.algebra.specs.Laws.Tab.{get_or-tab}
use Rattle.contrasts.proofs.Laws.Repeats.{same-weight}
use Rattle.plan.specs.declared.types.Plan.{Plan}
use Rattle.plan.specs.Check.{plan_refused}
use Rattle.plan.specs.Plan.{factors_of, runs_of, denominator_of, divisor_of}
use Rattle.plan.proofs.Laws.Sizes.{run-count, runs-few, some-repeat}
use Rattle.effects.specs.Effects.{effect_weights}

-- T19, T30: "The denominator, all divisors [..] are multiplied by r": no weight changes
pub weights-are : (p : Plan) → plan_refused p ≡ 0 → (e : ℕ) → e < runs_of p → get_or (effect_weights p) e 0 ≡ denominator_of p / divisor_of p e
unfolding effect_weights
weights-are p ok e h =
    get_or-tab 0 1024 _ e (omega (arith, h, runs-few p ok))
    ∙ rw (run-count p ok, lt-ltb e (runs_of p) h) (sym (same-weight (factors_of p) p.repeats e (some-repeat p ok).0))
