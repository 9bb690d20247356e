-- The starred run on D = ABC, other turns, and refusals 9, 10 and 16, computed over the definitions.
--
--   AD-is-BC, AD-turned           the starred run, with either sign
--   one-and-two, one-and-three    an added factor and its word of two letters or three, with either sign
--   to-the-mean                   effects that reduce to the empty word
--   refusal-9, refusal-10         "levels 3, k = 1"; a letter that the plan does not have
--   refusal-16                    where the runs are made three times it comes before both
use Rattle.std.specs.Prelude.{◌≡◌, refl, Bool, true, false, [], ◌∷◌, ℕ}
use Rattle.algebra.specs.Naturals.{Σℕ}
use Rattle.algebra.specs.Bits.{bits}
use Rattle.algebra.specs.Search.{some}
use Rattle.contrasts.specs.Limits.{most_two, most_three, is_repeats, most_readings}
use Rattle.contrasts.proofs.Factors.{two, three}
use Rattle.contrasts.specs.Totals.{size}
use Rattle.words.specs.Words.{letters, beyond, times, combined, any, among, repeated}
use Rattle.plan.specs.declared.types.Plan.{Plan}
use Rattle.plan.specs.Examples.{plan, made, C, AB, ABC, AD, BC}
use Rattle.plan.specs.Outcome.{Outcome, given, refused, outcome}
use Rattle.plan.specs.Plan.{factors_of, some_combination, combines_to}
use Rattle.plan.specs.Check.{bad_levels, bad_factors, bad_counts, bad_word, bad_sign, bad_words, dependent, factor_word, loses_factor, bad_repeats, plan_refused, with_plan}
use Rattle.aliases.specs.Alias.{base_word, sign_ones, odd_signs, turned, alias_refused, alias_values}

abbrev answer : Plan → ℕ → Outcome (ℕ × Bool)
answer p e = outcome (alias_refused p e) (alias_values p e)

-- X5: "k = 3, D = ABC: AD reduces to BC, unturned; with sign 1, turned."
AD-is-BC : answer (plan 2 3 (ABC ∷ []) (0 ∷ []) []) AD ≡ given (BC, false)
unfolding alias_refused with_plan plan_refused bad_levels bad_factors most_two most_three bad_counts bad_words bad_word bad_sign repeated dependent loses_factor factor_word any among beyond letters combined times some_combination combines_to some bits Σℕ bad_repeats is_repeats most_readings factors_of size two three base_word turned odd_signs sign_ones
AD-is-BC = refl

-- X5
AD-turned : answer (plan 2 3 (ABC ∷ []) (1 ∷ []) []) AD ≡ given (BC, true)
unfolding alias_refused with_plan plan_refused bad_levels bad_factors most_two most_three bad_counts bad_words bad_word bad_sign repeated dependent loses_factor factor_word any among beyond letters combined times some_combination combines_to some bits Σℕ bad_repeats is_repeats most_readings factors_of size two three base_word turned odd_signs sign_ones
AD-turned = refl

-- E10: C = AB with sign 0 is high where one of A and B is, and low where both are or neither: it counts as AB does with the sign turned; with
-- sign 1 as AB does. In low minus high it is the other way round.
one-and-two : answer (plan 2 2 (AB ∷ []) (0 ∷ []) []) C ∷ answer (plan 2 2 (AB ∷ []) (1 ∷ []) []) C ∷ []
    ≡ given (AB, true) ∷ given (AB, false) ∷ []
unfolding alias_refused with_plan plan_refused bad_levels bad_factors most_two most_three bad_counts bad_words bad_word bad_sign repeated dependent loses_factor factor_word any among beyond letters combined times some_combination combines_to some bits Σℕ bad_repeats is_repeats most_readings factors_of size two three base_word turned odd_signs sign_ones
one-and-two = refl

-- E10: D = ABC, 1 letter and 3, which are both odd
one-and-three : answer (plan 2 3 (ABC ∷ []) (0 ∷ []) []) 8 ∷ answer (plan 2 3 (ABC ∷ []) (1 ∷ []) []) 8 ∷ []
    ≡ given (ABC, false) ∷ given (ABC, true) ∷ []
unfolding alias_refused with_plan plan_refused bad_levels bad_factors most_two most_three bad_counts bad_words bad_word bad_sign repeated dependent loses_factor factor_word any among beyond letters combined times some_combination combines_to some bits Σℕ bad_repeats is_repeats most_readings factors_of size two three base_word turned odd_signs sign_ones
one-and-three = refl

-- E9, E10: ABC where C = AB, and ABCD where D = ABC, with sign 0
to-the-mean : answer (plan 2 2 (AB ∷ []) (0 ∷ []) []) ABC ∷ answer (plan 2 3 (ABC ∷ []) (0 ∷ []) []) 15 ∷ []
    ≡ given (0, true) ∷ given (0, false) ∷ []
unfolding alias_refused with_plan plan_refused bad_levels bad_factors most_two most_three bad_counts bad_words bad_word bad_sign repeated dependent loses_factor factor_word any among beyond letters combined times some_combination combines_to some bits Σℕ bad_repeats is_repeats most_readings factors_of size two three base_word turned odd_signs sign_ones
to-the-mean = refl

-- N9: "levels 3, k = 1"
refusal-9 : answer (plan 3 1 [] [] []) 0 ≡ refused 9
unfolding alias_refused with_plan plan_refused bad_levels bad_factors most_two most_three bad_counts bad_words bad_word bad_sign repeated dependent loses_factor factor_word any among beyond letters combined times some_combination combines_to some bits Σℕ bad_repeats is_repeats most_readings factors_of size two three base_word turned odd_signs sign_ones
refusal-9 = refl

-- N10: E, where the plan ends with D
refusal-10 : answer (plan 2 3 (ABC ∷ []) (0 ∷ []) []) 16 ≡ refused 10
unfolding alias_refused with_plan plan_refused bad_levels bad_factors most_two most_three bad_counts bad_words bad_word bad_sign repeated dependent loses_factor factor_word any among beyond letters combined times some_combination combines_to some bits Σℕ bad_repeats is_repeats most_readings factors_of size two three base_word turned odd_signs sign_ones
refusal-10 = refl

-- L12: 16 comes before 9 and 10
refusal-16 : answer (made 3 (plan 3 1 [] [] [])) 0 ∷ answer (made 3 (plan 2 3 (ABC ∷ []) (0 ∷ []) [])) 16 ∷ [] ≡ refused 16 ∷ refused 16 ∷ []
unfolding alias_refused with_plan plan_refused bad_levels bad_factors most_two most_three bad_counts bad_words bad_word bad_sign repeated dependent loses_factor factor_word any among beyond letters combined times some_combination combines_to some bits Σℕ bad_repeats is_repeats most_readings factors_of size two three base_word turned odd_signs sign_ones
refusal-16 = refl
