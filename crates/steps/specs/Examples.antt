-- The step call on small columns, computed over the definitions.
--
--   four-steps    readings 3, 5, 4, 8: two steps
--   three-step    readings 2, 5, 3 at three levels
--   small-inputs  refusals 11 and 12, of the column that is read and of the one that is written
--   step-limits   the largest values that are admitted, and those one larger
use Rattle.std.specs.Prelude.{◌≡◌, refl, List, [], ◌∷◌, suc, ℤ, pos}
use Rattle.algebra.specs.Naturals.{Σℕ}
use Rattle.algebra.specs.Bits.{bits}
use Rattle.algebra.specs.Search.{some}
use Rattle.algebra.specs.Sum.{Σ}
use Rattle.algebra.specs.Tab.{tab_from}
use Rattle.contrasts.specs.Columns.{step_of}
use Rattle.contrasts.specs.Limits.{value_limit, most_two, most_three, is_repeats, most_readings}
use Rattle.contrasts.proofs.Factors.{two, three}
use Rattle.contrasts.specs.Codings.{neg}
use Rattle.contrasts.specs.Totals.{size}
use Rattle.contrasts.specs.Steps.{step}
use Rattle.words.specs.Words.{letters, beyond, times, combined, any, among, repeated}
use Rattle.plan.specs.declared.types.Plan.{Plan}
use Rattle.plan.specs.Examples.{plan}
use Rattle.plan.specs.Plan.{factors_of, some_combination, combines_to}
use Rattle.plan.specs.Check.{bad_levels, bad_factors, bad_counts, bad_word, bad_sign, bad_words, dependent, factor_word, loses_factor, plan_refused, with_plan, bad_repeats}
use Rattle.plan.specs.Limits.{is_beyond}
use Rattle.columns.specs.Refusals.{wrong_length, any_beyond, columns_refused}
use Rattle.steps.specs.Step.{step_refused, step_column}

abbrev four : Plan
four = plan 2 2 [] [] []

abbrev readings : List ℤ
readings = pos 3 ∷ pos 5 ∷ pos 4 ∷ pos 8 ∷ []

-- whatever the written column held; a step that reads it is refused
abbrev other : List ℤ
other = pos (suc value_limit) ∷ pos 7 ∷ pos 7 ∷ pos 7 ∷ []

-- X1
four-steps : step_column four (step_column four readings other) other ≡ pos 20 ∷ neg 6 ∷ neg 4 ∷ pos 2 ∷ []
unfolding step_column columns_refused with_plan plan_refused bad_levels bad_factors most_two most_three bad_counts bad_words bad_word bad_sign repeated dependent loses_factor factor_word any among beyond letters combined times some_combination combines_to some bits Σℕ wrong_length any_beyond is_beyond value_limit factors_of size two step_of step Σ tab_from bad_repeats is_repeats most_readings three
four-steps = refl

-- X2
three-step : step_column (plan 3 1 [] [] []) (pos 2 ∷ pos 5 ∷ pos 3 ∷ []) (pos 0 ∷ pos 0 ∷ pos 0 ∷ []) ≡ pos 10 ∷ neg 1 ∷ neg 5 ∷ []
unfolding step_column columns_refused with_plan plan_refused bad_levels bad_factors most_two most_three bad_counts bad_words bad_word bad_sign repeated dependent loses_factor factor_word any among beyond letters combined times some_combination combines_to some bits Σℕ wrong_length any_beyond is_beyond value_limit factors_of size three step_of step Σ tab_from bad_repeats is_repeats most_readings two
three-step = refl

-- N11, N12
small-inputs : step_refused four (pos 3 ∷ []) other
    ∷ step_refused four readings (pos 3 ∷ [])
    ∷ step_refused four other readings
    ∷ step_refused four other (pos 3 ∷ [])
    ∷ []
    ≡ 11 ∷ 11 ∷ 12 ∷ 11 ∷ []
unfolding columns_refused with_plan plan_refused bad_levels bad_factors most_two most_three bad_counts bad_words bad_word bad_sign repeated dependent loses_factor factor_word any among beyond letters combined times some_combination combines_to some bits Σℕ wrong_length any_beyond is_beyond value_limit factors_of size two bad_repeats is_repeats most_readings three
small-inputs = refl

-- N12: a step "at either level count"
step-limits : step_refused (plan 2 1 [] [] []) (pos value_limit ∷ neg value_limit ∷ []) (pos 0 ∷ pos 0 ∷ [])
    ∷ step_refused (plan 2 1 [] [] []) (pos 0 ∷ neg (suc value_limit) ∷ []) (pos 0 ∷ pos 0 ∷ [])
    ∷ step_refused (plan 3 1 [] [] []) (neg value_limit ∷ pos 0 ∷ pos value_limit ∷ []) (pos 0 ∷ pos 0 ∷ pos 0 ∷ [])
    ∷ step_refused (plan 3 1 [] [] []) (pos 0 ∷ pos (suc value_limit) ∷ pos 0 ∷ []) (pos 0 ∷ pos 0 ∷ pos 0 ∷ [])
    ∷ []
    ≡ 0 ∷ 12 ∷ 0 ∷ 12 ∷ []
unfolding columns_refused with_plan plan_refused bad_levels bad_factors most_two most_three bad_counts bad_words bad_word bad_sign repeated dependent loses_factor factor_word any among beyond letters combined times some_combination combines_to some bits Σℕ wrong_length any_beyond is_beyond value_limit factors_of size two three bad_repeats is_repeats most_readings
step-limits = refl
