-- Estimates of small plans, computed over the definitions.
--
--   quotients              totals over powers of two, as doubles
--   four, eight            readings 3, 5, 4, 8, and readings 1 to 8 with the block word ABC
--   zeros                  totals of 0
--   one_factor             "k = 1, -100,000 and 100,000"
--   made_twice             k = 1 with runs made twice
--   small-inputs           the small inputs of refusals 9, 10 and 12, and the lowest of them where several apply
--   refusal-16             where the runs are made three times it comes before these
--   at-limits              the largest totals that are admitted, and those one larger
use Rattle.std.specs.Prelude.{◌≡◌, refl, true, false, List, [], ◌∷◌, ℕ, suc, ◌*◌, ℤ, pos}
use Rattle.std.specs.Float.{fin}
use Rattle.algebra.specs.Naturals.{Σℕ}
use Rattle.algebra.specs.Bits.{bits}
use Rattle.algebra.specs.Search.{some}
use Rattle.contrasts.specs.Limits.{two_reading_limit, three_reading_limit, most_two, most_three, is_repeats, most_readings}
use Rattle.contrasts.proofs.Factors.{two, three}
use Rattle.contrasts.specs.Totals.{size}
use Rattle.contrasts.specs.Codings.{neg}
use Rattle.words.specs.Words.{letters, beyond, times, combined, any, among, repeated}
use Rattle.plan.specs.declared.types.Plan.{Plan}
use Rattle.plan.specs.Examples.{plan, made, A, C, ABC}
use Rattle.plan.specs.Limits.{reading_limit, is_beyond}
use Rattle.plan.specs.Outcome.{Outcome, given, refused, outcome}
use Rattle.plan.specs.Plan.{factors_of, some_combination, combines_to}
use Rattle.plan.specs.Check.{bad_levels, bad_factors, bad_counts, bad_word, bad_sign, bad_words, dependent, factor_word, loses_factor, bad_repeats, plan_refused, with_plan}
use Rattle.estimates.specs.Quotient.{quotient, positive_zero}
use Rattle.estimates.specs.Estimate.{Value, mean, difference, lost, exponent_of, printed_total, mean_of, difference_of, value_by, estimate_value, estimate_refused}

-- E5, E6: 7 / 4 is 7 * 2 ^ -2, 12 / 4 is 3, -6 / 8 is -3 * 2 ^ -2, and 0 / 8 is positive zero
quotients : quotient (pos 7) 2 ∷ quotient (pos 12) 2 ∷ quotient (neg 6) 3 ∷ quotient (pos 0) 3 ∷ []
    ≡ fin false 7 (neg 2) ∷ fin false 3 (pos 0) ∷ fin true 3 (neg 2) ∷ fin false 0 (pos 0) ∷ []
unfolding quotient
quotients = refl

abbrev answer : Plan → ℕ → ℤ → Outcome Value
answer p e t = outcome (estimate_refused p e t) (estimate_value p e t)

-- T10: "place e of a column of totals holds the total of effect e"; the answers by such a column, from effect e on
abbrev answers : Plan → ℕ → List ℤ → List (Outcome Value)
answers p e [] = []
answers p e (t ∷ ts) = answer p e t ∷ answers p (suc e) ts

abbrev two_factors : Plan
two_factors = plan 2 2 [] [] []

-- X1: "totals 20, -6, -4, 2": the mean is 5, and the differences, high minus low, are 3, 2 and 1
four : answers two_factors 0 (pos 20 ∷ neg 6 ∷ neg 4 ∷ pos 2 ∷ [])
    ≡ given (mean (fin false 5 (pos 0)))
    ∷ given (difference (fin false 3 (pos 0)))
    ∷ given (difference (fin false 1 (pos 1)))
    ∷ given (difference (fin false 1 (pos 0)))
    ∷ []
unfolding estimate_refused with_plan plan_refused bad_levels bad_factors most_two most_three bad_counts bad_words bad_word bad_sign repeated dependent loses_factor factor_word any among beyond letters combined times some_combination combines_to some bits Σℕ bad_repeats is_repeats most_readings factors_of size two three is_beyond reading_limit two_reading_limit three_reading_limit exponent_of value_by mean_of difference_of printed_total quotient
four = refl

-- E6: all four totals 0: no zero is negative, that of A and of B neither
zeros : answers two_factors 0 (pos 0 ∷ pos 0 ∷ pos 0 ∷ pos 0 ∷ [])
    ≡ given (mean positive_zero) ∷ given (difference positive_zero) ∷ given (difference positive_zero) ∷ given (difference positive_zero) ∷ []
unfolding estimate_refused with_plan plan_refused bad_levels bad_factors most_two most_three bad_counts bad_words bad_word bad_sign repeated dependent loses_factor factor_word any among beyond letters combined times some_combination combines_to some bits Σℕ bad_repeats is_repeats most_readings factors_of size two three is_beyond reading_limit two_reading_limit three_reading_limit exponent_of value_by mean_of difference_of printed_total quotient
zeros = refl

abbrev in_blocks : Plan
in_blocks = plan 2 3 [] [] (ABC ∷ [])

-- X3: "totals 36, -4, -8, 0, -16, 0, 0, 0; row ABC is blocks.": the mean is 4.5, differences are 1, 2, 0, 4, 0 and 0, and ABC is lost
eight : answers in_blocks 0 (pos 36 ∷ neg 4 ∷ neg 8 ∷ pos 0 ∷ neg 16 ∷ pos 0 ∷ pos 0 ∷ pos 0 ∷ [])
    ≡ given (mean (fin false 9 (neg 1)))
    ∷ given (difference (fin false 1 (pos 0)))
    ∷ given (difference (fin false 1 (pos 1)))
    ∷ given (difference positive_zero)
    ∷ given (difference (fin false 1 (pos 2)))
    ∷ given (difference positive_zero)
    ∷ given (difference positive_zero)
    ∷ given lost
    ∷ []
unfolding estimate_refused with_plan plan_refused bad_levels bad_factors most_two most_three bad_counts bad_words bad_word bad_sign repeated dependent loses_factor factor_word any among beyond letters combined times some_combination combines_to some bits Σℕ bad_repeats is_repeats most_readings factors_of size two three is_beyond reading_limit two_reading_limit three_reading_limit exponent_of value_by mean_of difference_of printed_total quotient
eight = refl

-- X4: "totals 0, -200,000", "The k = 1 reference difference becomes 200,000", which is 3,125 * 2 ^ 6
one_factor : answers (plan 2 1 [] [] []) 0 (pos 0 ∷ neg 200_000 ∷ []) ≡ given (mean positive_zero) ∷ given (difference (fin false 3_125 (pos 6))) ∷ []
unfolding estimate_refused with_plan plan_refused bad_levels bad_factors most_two most_three bad_counts bad_words bad_word bad_sign repeated dependent loses_factor factor_word any among beyond letters combined times some_combination combines_to some bits Σℕ bad_repeats is_repeats most_readings factors_of size two three is_beyond reading_limit two_reading_limit three_reading_limit exponent_of value_by mean_of difference_of printed_total quotient
one_factor = refl

-- E3, E4, T30: k = 1, r = 2, run sums 8 and 12, so totals 20 and -4: the mean is 20 / 4, and the difference of A, high minus low, 4 / 2
made_twice : answers (made 2 (plan 2 1 [] [] [])) 0 (pos 20 ∷ neg 4 ∷ []) ≡ given (mean (fin false 5 (pos 0))) ∷ given (difference (fin false 1 (pos 1))) ∷ []
unfolding estimate_refused with_plan plan_refused bad_levels bad_factors most_two most_three bad_counts bad_words bad_word bad_sign repeated dependent loses_factor factor_word any among beyond letters combined times some_combination combines_to some bits Σℕ bad_repeats is_repeats most_readings factors_of size two three is_beyond reading_limit two_reading_limit three_reading_limit exponent_of value_by mean_of difference_of printed_total quotient
made_twice = refl

-- N9: "levels 3, k = 1"; N10: k = 2, effect C; N12: k = 2, a total of one more than four times the limit
-- L1: then calls to which 3, 9, 10 and 12 apply, 9, 10 and 12, and 10 and 12
small-inputs : answer (plan 3 1 [] [] []) A (pos 0)
    ∷ answer two_factors C (pos 0)
    ∷ answer two_factors A (pos (suc (4 * two_reading_limit)))
    ∷ answer (plan 3 7 [] [] []) 2048 (neg 10_000_000_000)
    ∷ answer (plan 3 1 [] [] []) C (neg 10_000_000_000)
    ∷ answer two_factors C (neg 10_000_000_000)
    ∷ []
    ≡ refused 9 ∷ refused 10 ∷ refused 12 ∷ refused 3 ∷ refused 9 ∷ refused 10 ∷ []
unfolding estimate_refused with_plan plan_refused bad_levels bad_factors most_two most_three bad_counts bad_words bad_word bad_sign repeated dependent loses_factor factor_word any among beyond letters combined times some_combination combines_to some bits Σℕ bad_repeats is_repeats most_readings factors_of size two three is_beyond reading_limit two_reading_limit three_reading_limit exponent_of value_by mean_of difference_of printed_total quotient
small-inputs = refl

-- L12: 16 comes before 9, 10 and 12
refusal-16 : answer (made 3 (plan 3 1 [] [] [])) A (pos 0) ∷ answer (made 3 two_factors) C (neg 10_000_000_000) ∷ [] ≡ refused 16 ∷ refused 16 ∷ []
unfolding estimate_refused with_plan plan_refused bad_levels bad_factors most_two most_three bad_counts bad_words bad_word bad_sign repeated dependent loses_factor factor_word any among beyond letters combined times some_combination combines_to some bits Σℕ bad_repeats is_repeats most_readings factors_of size two three is_beyond reading_limit two_reading_limit three_reading_limit exponent_of value_by mean_of difference_of printed_total quotient
refusal-16 = refl

-- E7, N12: both ways, with two factors and with ten, and the smallest i64; an effect that is lost is refused by its total too; T30: with seven
-- factors and runs made eight times
at-limits : estimate_refused two_factors A (pos (4 * two_reading_limit))
    ∷ estimate_refused two_factors A (neg (4 * two_reading_limit))
    ∷ estimate_refused two_factors A (pos (suc (4 * two_reading_limit)))
    ∷ estimate_refused two_factors A (neg (suc (4 * two_reading_limit)))
    ∷ estimate_refused (plan 2 10 [] [] []) 0 (neg (1024 * two_reading_limit))
    ∷ estimate_refused (plan 2 10 [] [] []) 0 (pos (suc (1024 * two_reading_limit)))
    ∷ estimate_refused two_factors A (neg 9_223_372_036_854_775_808)
    ∷ estimate_refused in_blocks ABC (pos (suc (8 * two_reading_limit)))
    ∷ estimate_refused (made 8 (plan 2 7 [] [] [])) A (neg 1_024_000_000)
    ∷ estimate_refused (made 8 (plan 2 7 [] [] [])) A (pos 1_024_000_001)
    ∷ []
    ≡ 0 ∷ 0 ∷ 12 ∷ 12 ∷ 0 ∷ 12 ∷ 12 ∷ 12 ∷ 0 ∷ 12 ∷ []
unfolding estimate_refused with_plan plan_refused bad_levels bad_factors most_two most_three bad_counts bad_words bad_word bad_sign repeated dependent loses_factor factor_word any among beyond letters combined times some_combination combines_to some bits Σℕ bad_repeats is_repeats most_readings factors_of size two three is_beyond reading_limit two_reading_limit three_reading_limit
at-limits = refl
