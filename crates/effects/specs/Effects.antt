-- The effects of a plan, as many as the largest plan has, for any plan.
--
--   effect_rows p       the rows of its effects, and 0 at numbers of no effect
--   effect_divisors p   their divisors, and 1 at numbers of no effect
--   effect_weights p    their weights, and 0 at numbers of no effect
use Rattle.std.specs.Prelude.{cond, List, ℕ, ltb}
use Rattle.algebra.specs.Tab.{tab}
use Rattle.contrasts.specs.Rows.{row_of}
use Rattle.contrasts.specs.Totals.{weight*}
use Rattle.plan.specs.declared.types.Plan.{Plan}
use Rattle.plan.specs.Check.{run_count}
use Rattle.plan.specs.Plan.{factors_of, divisor_of}

-- V1
unfoldable pub effect_rows : Plan → List ℕ
effect_rows p = tab 1024 (λ e. cond (ltb e (run_count p)) (row_of (factors_of p) e) 0)

-- T15: "Divisors: 2 to the power k at two levels; at three levels the product of 3, 2 or 6 by digit."
-- T30: "all divisors [..] are multiplied by r"
unfoldable pub effect_divisors : Plan → List ℕ
effect_divisors p = tab 1024 (λ e. cond (ltb e (run_count p)) (divisor_of p e) 1)

-- T19: "(denominator over divisor)"; r does not change it (`weights-are` in `Laws/Weights.antt`)
unfoldable pub effect_weights : Plan → List ℕ
effect_weights p = tab 1024 (λ e. cond (ltb e (run_count p)) (weight* (factors_of p) e) 0)
