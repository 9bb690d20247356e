-- Worked examples of the claims, computed over the definitions.
--
--   calls-of-four    a list of calls of which two name no factor: answers, and the column after each
--   four-back        the readings 3, 5, 4, 8 have the totals 20, -6, -4, 2, and these give them back; with 3 for 2 no readings have them
--   twice-back       of one factor, each run made twice: those readings have the totals 20, -4, and these give back the run sums 8, 12
--   half s           the plan of X5, with either sign
--   half-fits        it is one of the plans that the claims speak of
--   D-as-ABC         in its eight runs D has the signs of ABC, and with sign 1 the opposite ones
--   AD-as-BC         AD has those of BC, and with sign 1 the opposite ones
--   four-means       A of the readings 3, 5, 4, 8: the sums where it is high and where it is low, and over how many runs
--   AD-counts-BC     high minus low: in which runs of `half` AD counts plus, and BC
--   C-counts-AB      with C = AB, where the two have one letter and two: those of C with either sign, and of AB
use Rattle.std.specs.Prelude.{◌≡◌, refl, true, false, not, List, [], ◌∷◌, ◌++◌, ℕ, ℤ, pos, neg_ℤ}
use Rattle.algebra.specs.Bits.{bits}
use Rattle.algebra.specs.Naturals.{Σℕ}
use Rattle.algebra.specs.Search.{some}
use Rattle.algebra.specs.Sum.{Σ}
use Rattle.algebra.specs.Tab.{tab, tab_from}
use Rattle.contrasts.specs.Columns.{read, totals_of, run_sums_in, pass_of}
use Rattle.contrasts.specs.Contrast.{sum_where, count_where}
use Rattle.contrasts.specs.Limits.{value_limit, two_reading_limit, three_reading_limit, most_two, most_three, is_repeats, most_readings}
use Rattle.contrasts.proofs.Factors.{two, three}
use Rattle.contrasts.specs.Codings.{neg}
use Rattle.contrasts.specs.Recovery.{back_sum, readings_back, no_readings}
use Rattle.contrasts.specs.Repeats.{run_sums}
use Rattle.contrasts.specs.Totals.{size, coef*, total, divisor*, denominator, weight*}
use Rattle.contrasts.specs.Passes.{pass_at, pass_from}
use Rattle.plan.specs.declared.types.Plan.{Plan}
use Rattle.words.specs.Words.{letters, beyond, times, combined, any, among, repeated, shared, odd_in, lows, plus_in}
use Rattle.plan.specs.Check.{bad_levels, bad_factors, bad_counts, bad_word, bad_sign, bad_words, dependent, factor_word, loses_factor, plan_refused, with_plan, bad_repeats}
use Rattle.plan.specs.Examples.{plan, made, A, C, AB, ABC, AD, BC}
use Rattle.plan.specs.Outcome.{given, refused}
use Rattle.plan.specs.Plan.{factors_of, some_combination, combines_to}
use Rattle.plan.specs.Limits.{reading_limit, is_beyond}
use Rattle.columns.specs.Refusals.{wrong_length, wrong_readings, any_beyond, readings_refused}
use Rattle.yates.specs.Calls.{pass_refused, pass_column, totals_column}
use Rattle.recovery.specs.Calls.{recover_refused, recover_column}
use Rattle.promises.specs.Promised.{promised_recover}
use Rattle.claims.specs.AnyOrder.{after_calls, found, answer}
use Rattle.claims.specs.ReturnTrip.{Have}
use Rattle.runs.specs.Run.{high_by, high_in, high_letters}
use Rattle.claims.specs.Letters.{TwoLevels, factor_sign, sign}
use Rattle.claims.specs.HighMinusLow.{plus}

-- ---- passes in any order

-- The readings 3, 5, 4, 8. The calls ask for factor 7, which there is not, B, C, which there is not, and A. B makes 7, 13, -1, -3 of the
-- readings, and A the totals of that.
abbrev four : Plan
four = plan 2 2 [] [] []

abbrev four_readings : List ℤ
four_readings = pos 3 ∷ pos 5 ∷ pos 4 ∷ pos 8 ∷ []

abbrev four_calls : List ℕ
four_calls = 7 ∷ 1 ∷ 2 ∷ 0 ∷ []

calls-of-four : (tab 4 (answer four four_calls four_readings) ≡ refused 10 ∷ given tt ∷ refused 10 ∷ given tt ∷ [])
    × (tab 5 (found four four_calls four_readings)
    ≡ four_readings
    ∷ four_readings
    ∷ (pos 7 ∷ pos 13 ∷ neg 1 ∷ neg 3 ∷ [])
    ∷ (pos 7 ∷ pos 13 ∷ neg 1 ∷ neg 3 ∷ [])
    ∷ (pos 20 ∷ neg 6 ∷ neg 4 ∷ pos 2 ∷ [])
    ∷ [])
unfolding after_calls pass_refused pass_column pass_of pass_from pass_at with_plan plan_refused bad_levels bad_factors most_two most_three bad_counts bad_words bad_word bad_sign repeated dependent loses_factor factor_word any among beyond letters combined times some_combination combines_to some bits Σℕ Σ wrong_length any_beyond is_beyond value_limit factors_of size two tab_from bad_repeats is_repeats most_readings three
calls-of-four = (refl, refl)

-- ---- readings back from totals

abbrev four_zeros : List ℤ
four_zeros = pos 0 ∷ pos 0 ∷ pos 0 ∷ pos 0 ∷ []

-- T32, N14
four-back : Have four four_readings (pos 20 ∷ neg 6 ∷ neg 4 ∷ pos 2 ∷ [])
    × (promised_recover four (pos 20 ∷ neg 6 ∷ neg 4 ∷ pos 2 ∷ []) four_zeros ≡ record { answer = given tt; column = four_readings })
    × (promised_recover four (pos 20 ∷ neg 6 ∷ neg 4 ∷ pos 3 ∷ []) four_zeros ≡ record { answer = refused 14; column = four_zeros })
unfolding totals_column totals_of readings_refused wrong_readings run_sums_in run_sums recover_column recover_refused no_readings readings_back back_sum weight* divisor* denominator total coef* with_plan plan_refused bad_levels bad_factors most_two most_three bad_counts bad_words bad_word bad_sign repeated dependent loses_factor factor_word any among beyond letters combined times some_combination combines_to some bits Σℕ Σ wrong_length any_beyond is_beyond reading_limit two_reading_limit three_reading_limit factors_of size two tab_from bad_repeats is_repeats most_readings three
four-back = ((four_zeros, refl), refl, refl)

abbrev two_runs : Plan
two_runs = made 2 (plan 2 1 [] [] [])

-- T34
twice-back : Have two_runs four_readings (pos 20 ∷ neg 4 ∷ [])
    × (promised_recover two_runs (pos 20 ∷ neg 4 ∷ []) (pos 0 ∷ pos 0 ∷ []) ≡ record { answer = given tt; column = pos 8 ∷ pos 12 ∷ [] })
unfolding totals_column totals_of readings_refused wrong_readings run_sums_in run_sums recover_column recover_refused no_readings readings_back back_sum weight* divisor* denominator total coef* with_plan plan_refused bad_levels bad_factors most_two most_three bad_counts bad_words bad_word bad_sign repeated dependent loses_factor factor_word any among beyond letters combined times some_combination combines_to some bits Σℕ Σ wrong_length any_beyond is_beyond reading_limit two_reading_limit three_reading_limit factors_of size two tab_from bad_repeats is_repeats most_readings three
twice-back = ((pos 0 ∷ pos 0 ∷ [], refl), refl)

-- ---- letters

abbrev half : ℕ → Plan
half s = plan 2 3 (ABC ∷ []) (s ∷ []) []

half-fits : TwoLevels (half 0) × TwoLevels (half 1)
unfolding plan_refused bad_levels bad_factors most_two most_three bad_counts bad_words bad_word bad_sign repeated dependent loses_factor factor_word any among beyond letters combined times some_combination combines_to some bits Σℕ bad_repeats is_repeats most_readings factors_of size two three
half-fits = (record { accepted = refl; two = refl }, record { accepted = refl; two = refl })

-- D is letter 3
D-as-ABC : tab 8 (λ r. factor_sign (half 0) r 3) ++ tab 8 (λ r. factor_sign (half 1) r 3)
    ≡ tab 8 (coef* (factors_of (half 0)) ABC) ++ tab 8 (λ r. neg_ℤ (coef* (factors_of (half 1)) ABC r))
unfolding tab_from factors_of coef* two high_letters high_in high_by odd_in shared bits Σℕ
D-as-ABC = refl

AD-as-BC : tab 8 (λ r. sign (half 0) r AD) ++ tab 8 (λ r. sign (half 1) r AD)
    ≡ tab 8 (coef* (factors_of (half 0)) BC) ++ tab 8 (λ r. neg_ℤ (coef* (factors_of (half 1)) BC r))
unfolding tab_from factors_of coef* two high_letters high_in high_by odd_in shared bits Σℕ
AD-as-BC = refl

-- ---- high minus low

-- 5 + 8 and 3 + 4, each over two runs: 6.5 less 3.5 is 3
four-means : (sum_where 4 (λ r. plus four r A) (read four_readings) ≡ pos 13)
    × (sum_where 4 (λ r. not (plus four r A)) (read four_readings) ≡ pos 7)
    × (count_where 4 (λ r. plus four r A) ≡ 2)
    × (count_where 4 (λ r. not (plus four r A)) ≡ 2)
unfolding high_letters high_in high_by plus_in lows odd_in shared bits Σ Σℕ
four-means = (refl, refl, refl, refl)

AD-counts-BC : (tab 8 (λ r. plus (half 0) r AD) ≡ true ∷ true ∷ false ∷ false ∷ false ∷ false ∷ true ∷ true ∷ [])
    × (tab 8 (λ r. plus (half 0) r BC) ≡ true ∷ true ∷ false ∷ false ∷ false ∷ false ∷ true ∷ true ∷ [])
    × (tab 8 (λ r. plus (half 1) r AD) ≡ false ∷ false ∷ true ∷ true ∷ true ∷ true ∷ false ∷ false ∷ [])
unfolding tab_from high_letters high_in high_by plus_in lows odd_in shared bits Σℕ
AD-counts-BC = (refl, refl, refl)

abbrev half_ab : ℕ → Plan
half_ab s = plan 2 2 (AB ∷ []) (s ∷ []) []

C-counts-AB : (tab 4 (λ r. plus (half_ab 0) r AB) ≡ true ∷ false ∷ false ∷ true ∷ [])
    × (tab 4 (λ r. plus (half_ab 0) r C) ≡ false ∷ true ∷ true ∷ false ∷ [])
    × (tab 4 (λ r. plus (half_ab 1) r C) ≡ true ∷ false ∷ false ∷ true ∷ [])
unfolding tab_from high_letters high_in high_by plus_in lows odd_in shared bits Σℕ
C-counts-AB = (refl, refl, refl)
