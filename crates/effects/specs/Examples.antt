-- Rows, divisors and weights of effects, computed over the definitions.
--
--   nine           two three-level factors: the first nine entries, each divided by 3 for each of the four factors missing
--   nine-rows      the rows of their effects, and of a number of no effect
--   nine-divisors  the divisors, and of a number of no effect
--   four-times     those of runs made four times; of one two-level factor whose runs are made twice
--   nine-weights   the weights, and of a number of no effect
use Rattle.std.specs.Prelude.{◌≡◌, refl, [], ◌∷◌, ◌++◌, take}
use Rattle.algebra.specs.Tab.{tab_from}
use Rattle.contrasts.specs.Limits.{most_two, most_three}
use Rattle.contrasts.specs.Rows.{row_of}
use Rattle.contrasts.proofs.Factors.{two, three}
use Rattle.contrasts.specs.Totals.{size, divisor*, denominator, weight*}
use Rattle.plan.specs.Check.{bad_levels, bad_factors, run_count}
use Rattle.plan.specs.Examples.{plan, made}
use Rattle.plan.specs.Plan.{factors_of}
use Rattle.effects.specs.Inner.Divisors.{divisors_of}
use Rattle.effects.specs.Effects.{effect_rows, effect_divisors, effect_weights}

-- X6: "Two three-level factors: divisors 9, 6, 18, 6, 4, 12, 18, 12, 36."
nine : take 9 (divisors_of 2) ≡ 9 ∷ 6 ∷ 18 ∷ 6 ∷ 4 ∷ 12 ∷ 18 ∷ 12 ∷ 36 ∷ []
unfolding divisors_of divisor* three tab_from
nine = refl

nine-rows : take 10 (effect_rows (plan 3 2 [] [] [])) ≡ 0 ∷ 1 ∷ 1 ∷ 2 ∷ 3 ∷ 3 ∷ 2 ∷ 3 ∷ 3 ∷ 0 ∷ []
unfolding effect_rows run_count bad_levels bad_factors most_two most_three factors_of size row_of two three tab_from
nine-rows = refl

-- X6
nine-divisors : take 10 (effect_divisors (plan 3 2 [] [] [])) ≡ 9 ∷ 6 ∷ 18 ∷ 6 ∷ 4 ∷ 12 ∷ 18 ∷ 12 ∷ 36 ∷ 1 ∷ []
unfolding effect_divisors run_count bad_levels bad_factors most_two most_three factors_of size divisor* two three tab_from
nine-divisors = refl

-- T30: "all divisors [..] are multiplied by r"
four-times : take 10 (effect_divisors (made 4 (plan 3 2 [] [] []))) ++ take 3 (effect_divisors (made 2 (plan 2 1 [] [] [])))
    ≡ 36 ∷ 24 ∷ 72 ∷ 24 ∷ 16 ∷ 48 ∷ 72 ∷ 48 ∷ 144 ∷ 1 ∷ 4 ∷ 4 ∷ 1 ∷ []
unfolding effect_divisors run_count bad_levels bad_factors most_two most_three factors_of size divisor* two three tab_from
four-times = refl

-- 36 over each of them
nine-weights : take 10 (effect_weights (plan 3 2 [] [] [])) ≡ 4 ∷ 6 ∷ 2 ∷ 6 ∷ 9 ∷ 3 ∷ 2 ∷ 3 ∷ 1 ∷ 0 ∷ []
unfolding effect_weights run_count bad_levels bad_factors most_two most_three factors_of size divisor* denominator weight* two three tab_from
nine-weights = refl
