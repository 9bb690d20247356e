-- The pass and the totals call on small columns, computed over the definitions.
--
--   four-passes, four-turned         readings 3, 5, 4, 8: the passes of A and B, and of B and A
--   four-totals, three-totals        the totals of these, and of 2, 5, 3 at three levels
--   small-inputs                     the small inputs of refusals 10, 11 and 12, and the lowest of them where several apply
--   twice-totals, twice-refused      runs made twice: their totals, and what is refused
--   pass-limits, reading-limits      the largest values that are admitted, and those one larger
--   unchanged                        a column that is refused
use Rattle.std.specs.Prelude.{◌≡◌, refl, List, [], ◌∷◌, suc, ℤ, pos}
use Rattle.algebra.specs.Naturals.{Σℕ}
use Rattle.algebra.specs.Bits.{bits}
use Rattle.algebra.specs.Search.{some}
use Rattle.algebra.specs.Sum.{Σ}
use Rattle.algebra.specs.Tab.{tab_from}
use Rattle.contrasts.specs.Columns.{pass_of, totals_of, run_sums_in}
use Rattle.contrasts.specs.Repeats.{run_sums}
use Rattle.contrasts.specs.Limits.{two_reading_limit, three_reading_limit, value_limit, most_two, most_three, is_repeats, most_readings}
use Rattle.contrasts.proofs.Factors.{two, three}
use Rattle.contrasts.specs.Codings.{neg}
use Rattle.contrasts.specs.Totals.{size, coef*, total}
use Rattle.contrasts.specs.Passes.{pass_at, pass_from}
use Rattle.words.specs.Words.{letters, beyond, times, combined, any, among, repeated}
use Rattle.plan.specs.declared.types.Plan.{Plan}
use Rattle.plan.specs.Examples.{plan, made}
use Rattle.plan.specs.Limits.{reading_limit, is_beyond}
use Rattle.plan.specs.Plan.{factors_of, some_combination, combines_to}
use Rattle.plan.specs.Check.{bad_levels, bad_factors, bad_counts, bad_word, bad_sign, bad_words, dependent, factor_word, loses_factor, plan_refused, with_plan, bad_repeats}
use Rattle.columns.specs.Refusals.{wrong_length, wrong_readings, any_beyond, readings_refused}
use Rattle.yates.specs.Calls.{pass_refused, pass_column, totals_refused, totals_column}

-- two factors of two levels, one of two, one of three
abbrev four : Plan
four = plan 2 2 [] [] []

abbrev two-runs : Plan
two-runs = plan 2 1 [] [] []

abbrev three-runs : Plan
three-runs = plan 3 1 [] [] []

abbrev readings : List ℤ
readings = pos 3 ∷ pos 5 ∷ pos 4 ∷ pos 8 ∷ []

abbrev zeros : List ℤ
zeros = pos 0 ∷ pos 0 ∷ pos 0 ∷ []

-- X1
four-passes : pass_column four 1 (pass_column four 0 readings) ≡ pos 20 ∷ neg 6 ∷ neg 4 ∷ pos 2 ∷ []
unfolding pass_column pass_refused with_plan plan_refused bad_levels bad_factors most_two most_three bad_counts bad_words bad_word bad_sign repeated dependent loses_factor factor_word any among beyond letters combined times some_combination combines_to some bits Σℕ wrong_length any_beyond is_beyond value_limit factors_of size two pass_of pass_from pass_at Σ tab_from bad_repeats is_repeats most_readings three
four-passes = refl

-- X1
four-turned : pass_column four 0 (pass_column four 1 readings) ≡ pos 20 ∷ neg 6 ∷ neg 4 ∷ pos 2 ∷ []
unfolding pass_column pass_refused with_plan plan_refused bad_levels bad_factors most_two most_three bad_counts bad_words bad_word bad_sign repeated dependent loses_factor factor_word any among beyond letters combined times some_combination combines_to some bits Σℕ wrong_length any_beyond is_beyond value_limit factors_of size two pass_of pass_from pass_at Σ tab_from bad_repeats is_repeats most_readings three
four-turned = refl

-- X1
four-totals : totals_column four readings readings ≡ pos 20 ∷ neg 6 ∷ neg 4 ∷ pos 2 ∷ []
unfolding totals_column readings_refused with_plan plan_refused bad_levels bad_factors most_two most_three bad_counts bad_words bad_word bad_sign repeated dependent loses_factor factor_word any among beyond letters combined times some_combination combines_to some bits Σℕ wrong_length wrong_readings any_beyond is_beyond reading_limit two_reading_limit three_reading_limit factors_of size two run_sums_in run_sums totals_of total coef* Σ tab_from bad_repeats is_repeats most_readings three
four-totals = refl

-- X2
three-totals : totals_column three-runs (pos 2 ∷ pos 5 ∷ pos 3 ∷ []) (pos 0 ∷ pos 0 ∷ pos 0 ∷ []) ≡ pos 10 ∷ neg 1 ∷ neg 5 ∷ []
unfolding totals_column readings_refused with_plan plan_refused bad_levels bad_factors most_two most_three bad_counts bad_words bad_word bad_sign repeated dependent loses_factor factor_word any among beyond letters combined times some_combination combines_to some bits Σℕ wrong_length wrong_readings any_beyond is_beyond reading_limit two_reading_limit three_reading_limit factors_of size three run_sums_in run_sums totals_of total coef* Σ tab_from bad_repeats is_repeats most_readings two
three-totals = refl

-- N10: "k = 2, pass of C"; N11: "k = 2, 3 readings"; N12: "its small input is now a three-level one", a reading of 100,001, which two
-- levels admit
-- L1: then a pass to which 10, 11 and 12 apply, and a totals call to which 11 and 12 do
small-inputs : pass_refused four 2 readings
    ∷ totals_refused four (pos 3 ∷ pos 5 ∷ pos 4 ∷ []) readings
    ∷ totals_refused three-runs (pos 2 ∷ pos 5 ∷ pos 100_001 ∷ []) zeros
    ∷ totals_refused four (pos 3 ∷ pos 5 ∷ pos 4 ∷ pos 100_001 ∷ []) readings
    ∷ pass_refused four 2 (pos (suc value_limit) ∷ [])
    ∷ totals_refused three-runs (pos 100_001 ∷ []) zeros
    ∷ []
    ≡ 10 ∷ 11 ∷ 12 ∷ 0 ∷ 10 ∷ 11 ∷ []
unfolding pass_refused readings_refused with_plan plan_refused bad_levels bad_factors most_two most_three bad_counts bad_words bad_word bad_sign repeated dependent loses_factor factor_word any among beyond letters combined times some_combination combines_to some bits Σℕ wrong_length wrong_readings any_beyond is_beyond reading_limit two_reading_limit three_reading_limit value_limit factors_of size two three bad_repeats is_repeats most_readings
small-inputs = refl

-- T29, R10: one factor of two levels, each run made twice: of the runs 3, 5 and 4, 8 the sums are 8 and 12
twice-totals : totals_column (made 2 two-runs) readings (pos 0 ∷ pos 0 ∷ []) ≡ pos 20 ∷ neg 4 ∷ []
unfolding totals_column readings_refused with_plan plan_refused bad_levels bad_factors most_two most_three bad_counts bad_words bad_word bad_sign repeated dependent loses_factor factor_word any among beyond letters combined times some_combination combines_to some bits Σℕ wrong_length wrong_readings any_beyond is_beyond reading_limit two_reading_limit three_reading_limit factors_of size two run_sums_in run_sums totals_of total coef* Σ tab_from bad_repeats is_repeats most_readings three
twice-totals = refl

-- N16, N11: runs made three times; two and five readings, and four totals, where four readings and two totals are due; L12: 16 before 10 and 11
twice-refused : totals_refused (made 3 two-runs) readings (pos 0 ∷ pos 0 ∷ [])
    ∷ totals_refused (made 2 two-runs) (pos 3 ∷ pos 5 ∷ []) (pos 0 ∷ pos 0 ∷ [])
    ∷ totals_refused (made 2 two-runs) (pos 0 ∷ readings) (pos 0 ∷ pos 0 ∷ [])
    ∷ totals_refused (made 2 two-runs) readings readings
    ∷ totals_refused (made 3 two-runs) [] []
    ∷ pass_refused (made 3 two-runs) 1 []
    ∷ pass_refused (made 2 two-runs) 0 readings
    ∷ pass_refused (made 2 two-runs) 0 (pos 8 ∷ pos 12 ∷ [])
    ∷ []
    ≡ 16 ∷ 11 ∷ 11 ∷ 11 ∷ 16 ∷ 16 ∷ 11 ∷ 0 ∷ []
unfolding pass_refused readings_refused with_plan plan_refused bad_levels bad_factors most_two most_three bad_counts bad_words bad_word bad_sign repeated dependent loses_factor factor_word any among beyond letters combined times some_combination combines_to some bits Σℕ wrong_length wrong_readings any_beyond is_beyond reading_limit two_reading_limit three_reading_limit value_limit factors_of size two three bad_repeats is_repeats most_readings
twice-refused = refl

-- N12: a pass "at either level count"
pass-limits : pass_refused two-runs 0 (pos value_limit ∷ neg value_limit ∷ [])
    ∷ pass_refused two-runs 0 (pos (suc value_limit) ∷ pos 0 ∷ [])
    ∷ pass_refused two-runs 0 (pos 0 ∷ neg (suc value_limit) ∷ [])
    ∷ pass_refused three-runs 0 (pos value_limit ∷ pos 0 ∷ neg value_limit ∷ [])
    ∷ pass_refused three-runs 0 (pos 0 ∷ pos 0 ∷ pos (suc value_limit) ∷ [])
    ∷ pass_refused three-runs 0 (neg (suc value_limit) ∷ pos 0 ∷ pos 0 ∷ [])
    ∷ []
    ≡ 0 ∷ 12 ∷ 12 ∷ 0 ∷ 12 ∷ 12 ∷ []
unfolding pass_refused with_plan plan_refused bad_levels bad_factors most_two most_three bad_counts bad_words bad_word bad_sign repeated dependent loses_factor factor_word any among beyond letters combined times some_combination combines_to some bits Σℕ wrong_length any_beyond is_beyond value_limit factors_of size two three bad_repeats is_repeats most_readings
pass-limits = refl

-- N12: readings by the level count
reading-limits : totals_refused two-runs (pos two_reading_limit ∷ neg two_reading_limit ∷ []) (pos 0 ∷ pos 0 ∷ [])
    ∷ totals_refused two-runs (pos 0 ∷ pos (suc two_reading_limit) ∷ []) (pos 0 ∷ pos 0 ∷ [])
    ∷ totals_refused two-runs (neg (suc two_reading_limit) ∷ pos 0 ∷ []) (pos 0 ∷ pos 0 ∷ [])
    ∷ totals_refused three-runs (pos three_reading_limit ∷ pos 0 ∷ neg three_reading_limit ∷ []) zeros
    ∷ totals_refused three-runs (pos 0 ∷ neg (suc three_reading_limit) ∷ pos 0 ∷ []) zeros
    ∷ totals_refused three-runs (pos two_reading_limit ∷ pos 0 ∷ pos 0 ∷ []) zeros
    ∷ []
    ≡ 0 ∷ 12 ∷ 12 ∷ 0 ∷ 12 ∷ 12 ∷ []
unfolding readings_refused with_plan plan_refused bad_levels bad_factors most_two most_three bad_counts bad_words bad_word bad_sign repeated dependent loses_factor factor_word any among beyond letters combined times some_combination combines_to some bits Σℕ wrong_length wrong_readings any_beyond is_beyond reading_limit two_reading_limit three_reading_limit factors_of size two three bad_repeats is_repeats most_readings
reading-limits = refl

-- T25, L2
unchanged : pass_column four 2 readings ≡ readings
unfolding pass_column pass_refused with_plan plan_refused bad_levels bad_factors most_two most_three bad_counts bad_words bad_word bad_sign repeated dependent loses_factor factor_word any among beyond letters combined times some_combination combines_to some bits Σℕ wrong_length any_beyond is_beyond value_limit factors_of size two bad_repeats is_repeats most_readings three
unchanged = refl
