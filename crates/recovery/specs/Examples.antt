-- The recovery call on small columns, computed over the definitions.
--
--   four-back, three_back               the readings of the totals 20, -6, -4, 2, and of 10, -1, -5 at three levels
--   nine-back, eight-back               of two three-level factors in blocks, and of plans with a block word or an added factor
--   twice-back                          runs made twice: their sums
--   none                                totals that no readings have
--   limits, run-limits                  readings and run sums at the limit, and one beyond it
--   first-number                        the first number where several apply
--   unchanged                           a column that is refused
use Rattle.std.specs.Prelude.{◌≡◌, refl, List, [], ◌∷◌, ◌++◌, suc, ◌+◌, ◌-◌, ◌*◌, ◌^◌, ℤ, pos}
use Rattle.algebra.specs.Naturals.{Σℕ}
use Rattle.algebra.specs.Bits.{bits}
use Rattle.algebra.specs.Search.{some}
use Rattle.algebra.specs.Sum.{Σ}
use Rattle.algebra.specs.Tab.{tab_from}
use Rattle.contrasts.specs.Limits.{two_reading_limit, three_reading_limit, most_two, most_three, is_repeats, most_readings}
use Rattle.contrasts.proofs.Factors.{two, three}
use Rattle.contrasts.specs.Codings.{neg}
use Rattle.contrasts.specs.Recovery.{back_sum, readings_back, no_readings}
use Rattle.contrasts.specs.Totals.{size, coef*, total, divisor*, denominator, weight*}
use Rattle.words.specs.Words.{letters, beyond, times, combined, any, among, repeated}
use Rattle.plan.specs.declared.types.Plan.{Plan}
use Rattle.plan.specs.Examples.{plan, made}
use Rattle.plan.specs.Limits.{reading_limit}
use Rattle.plan.specs.Plan.{factors_of, some_combination, combines_to}
use Rattle.plan.specs.Check.{bad_levels, bad_factors, bad_counts, bad_word, bad_sign, used_digits, lowest_digit, bad_digits, bad_words, dependent, factor_word, loses_factor, plan_refused, with_plan, bad_repeats}
use Rattle.columns.specs.Refusals.{wrong_length}
use Rattle.recovery.specs.Calls.{recover_refused, recover_column}

abbrev four : Plan
four = plan 2 2 [] [] []

abbrev two-runs : Plan
two-runs = plan 2 1 [] [] []

abbrev three-runs : Plan
three-runs = plan 3 1 [] [] []

abbrev pair : List ℤ
pair = pos 0 ∷ pos 0 ∷ []

abbrev triple : List ℤ
triple = pos 0 ∷ pair

abbrev quadruple : List ℤ
quadruple = pos 0 ∷ triple

abbrev one-to-eight : List ℤ
one-to-eight = pos 1 ∷ pos 2 ∷ pos 3 ∷ pos 4 ∷ pos 5 ∷ pos 6 ∷ pos 7 ∷ pos 8 ∷ []

-- X1, T32
four-back : recover_column four (pos 20 ∷ neg 6 ∷ neg 4 ∷ pos 2 ∷ []) quadruple ≡ pos 3 ∷ pos 5 ∷ pos 4 ∷ pos 8 ∷ []
unfolding recover_column recover_refused with_plan plan_refused bad_levels bad_factors most_two most_three bad_counts bad_words bad_word bad_sign repeated dependent loses_factor factor_word any among beyond letters combined times some_combination combines_to some bits Σℕ wrong_length reading_limit two_reading_limit three_reading_limit factors_of size two three bad_repeats is_repeats most_readings no_readings readings_back back_sum weight* divisor* denominator total coef* Σ tab_from
four-back = refl

-- X2, T32
three_back : recover_column three-runs (pos 10 ∷ neg 1 ∷ neg 5 ∷ []) triple ≡ pos 2 ∷ pos 5 ∷ pos 3 ∷ []
unfolding recover_column recover_refused with_plan plan_refused bad_levels bad_factors most_two most_three bad_counts bad_words bad_word bad_sign repeated dependent loses_factor factor_word any among beyond letters combined times some_combination combines_to some bits Σℕ wrong_length reading_limit two_reading_limit three_reading_limit factors_of size two three bad_repeats is_repeats most_readings no_readings readings_back back_sum weight* divisor* denominator total coef* Σ tab_from
three_back = refl

-- T32: of readings that differ from each other, and of both signs, in three blocks
nine-back : recover_column (plan 3 2 [] [] (4 ∷ [])) (pos 23 ∷ pos 1 ∷ neg 7 ∷ neg 34 ∷ pos 2 ∷ neg 16 ∷ pos 32 ∷ neg 38 ∷ pos 20 ∷ []) (quadruple ++ (pos 0 ∷ quadruple))
    ≡ neg 5 ∷ pos 1 ∷ pos 0 ∷ pos 4 ∷ pos 2 ∷ neg 9 ∷ pos 8 ∷ pos 7 ∷ pos 15 ∷ []
unfolding recover_column recover_refused bad_digits used_digits lowest_digit with_plan plan_refused bad_levels bad_factors most_two most_three bad_counts bad_words bad_word bad_sign repeated dependent loses_factor factor_word any among beyond letters combined times some_combination combines_to some bits Σℕ wrong_length reading_limit two_reading_limit three_reading_limit factors_of size two three bad_repeats is_repeats most_readings no_readings readings_back back_sum weight* divisor* denominator total coef* Σ tab_from
nine-back = refl

-- X3, T32: block words and added factors change no total
eight-back : recover_column (plan 2 3 [] [] (7 ∷ [])) (pos 36 ∷ neg 4 ∷ neg 8 ∷ pos 0 ∷ neg 16 ∷ triple) (quadruple ++ quadruple)
    ∷ recover_column (plan 2 3 (7 ∷ []) (1 ∷ []) []) (pos 36 ∷ neg 4 ∷ neg 8 ∷ pos 0 ∷ neg 16 ∷ triple) (quadruple ++ quadruple)
    ∷ []
    ≡ one-to-eight ∷ one-to-eight ∷ []
unfolding recover_column recover_refused with_plan plan_refused bad_levels bad_factors most_two most_three bad_counts bad_words bad_word bad_sign repeated dependent loses_factor factor_word any among beyond letters combined times some_combination combines_to some bits Σℕ wrong_length reading_limit two_reading_limit three_reading_limit factors_of size two three bad_repeats is_repeats most_readings no_readings readings_back back_sum weight* divisor* denominator total coef* Σ tab_from
eight-back = refl

-- T34: one factor of two levels, each run made twice: of the runs 3, 5 and 4, 8 the sums are 8 and 12
twice-back : recover_column (made 2 two-runs) (pos 20 ∷ neg 4 ∷ []) pair ≡ pos 8 ∷ pos 12 ∷ []
unfolding recover_column recover_refused with_plan plan_refused bad_levels bad_factors most_two most_three bad_counts bad_words bad_word bad_sign repeated dependent loses_factor factor_word any among beyond letters combined times some_combination combines_to some bits Σℕ wrong_length reading_limit two_reading_limit three_reading_limit factors_of size two three bad_repeats is_repeats most_readings no_readings readings_back back_sum weight* divisor* denominator total coef* Σ tab_from
twice-back = refl

-- N14: the totals of 3, 5, 4, 8, one of them changed by 1, and by 2; each of them plus 2 to the power 62, where a sum that wraps would find
-- 3, 5, 4, 8; and at three levels 10, -1, -5, one of them changed by 1, 1 and 3, where the first sum is 14, 15 and 15, no multiple of 6;
-- then 0, 1, and 1, 0, and -1, 0, where the column back is 0, 0, which has another total at one place alone
none : recover_refused four (pos 20 ∷ neg 6 ∷ neg 4 ∷ pos 3 ∷ []) quadruple
    ∷ recover_refused four (pos 20 ∷ neg 6 ∷ neg 2 ∷ pos 2 ∷ []) quadruple
    ∷ recover_refused four (pos (2 ^ 62 + 20) ∷ pos (2 ^ 62 - 6) ∷ pos (2 ^ 62 - 4) ∷ pos (2 ^ 62 + 2) ∷ []) quadruple
    ∷ recover_refused three-runs (pos 11 ∷ neg 1 ∷ neg 5 ∷ []) triple
    ∷ recover_refused three-runs (pos 10 ∷ pos 0 ∷ neg 5 ∷ []) triple
    ∷ recover_refused three-runs (pos 10 ∷ neg 1 ∷ neg 2 ∷ []) triple
    ∷ recover_refused two-runs (pos 0 ∷ pos 1 ∷ []) pair
    ∷ recover_refused two-runs (pos 1 ∷ pos 0 ∷ []) pair
    ∷ recover_refused two-runs (neg 1 ∷ pos 0 ∷ []) pair
    ∷ []
    ≡ 14 ∷ 14 ∷ 14 ∷ 14 ∷ 14 ∷ 14 ∷ 14 ∷ 14 ∷ 14 ∷ []
unfolding recover_refused with_plan plan_refused bad_levels bad_factors most_two most_three bad_counts bad_words bad_word bad_sign repeated dependent loses_factor factor_word any among beyond letters combined times some_combination combines_to some bits Σℕ wrong_length reading_limit two_reading_limit three_reading_limit factors_of size two three bad_repeats is_repeats most_readings no_readings readings_back back_sum weight* divisor* denominator total coef* Σ tab_from
none = refl

-- T33: two runs, L being the limit of a reading: readings L, -L; L + 1, 0; and 0, L + 1. Three: -L, 0, 0; and -(L + 1), 0, 0.
limits : recover_refused two-runs (pos 0 ∷ pos (2 * two_reading_limit) ∷ []) pair
    ∷ recover_refused two-runs (pos (suc two_reading_limit) ∷ pos (suc two_reading_limit) ∷ []) pair
    ∷ recover_refused two-runs (pos (suc two_reading_limit) ∷ neg (suc two_reading_limit) ∷ []) pair
    ∷ recover_refused three-runs (neg three_reading_limit ∷ neg three_reading_limit ∷ neg three_reading_limit ∷ []) triple
    ∷ recover_refused three-runs (neg (suc three_reading_limit) ∷ neg (suc three_reading_limit) ∷ neg (suc three_reading_limit) ∷ []) triple
    ∷ []
    ≡ 0 ∷ 14 ∷ 14 ∷ 0 ∷ 14 ∷ []
unfolding recover_refused with_plan plan_refused bad_levels bad_factors most_two most_three bad_counts bad_words bad_word bad_sign repeated dependent loses_factor factor_word any among beyond letters combined times some_combination combines_to some bits Σℕ wrong_length reading_limit two_reading_limit three_reading_limit factors_of size two three bad_repeats is_repeats most_readings no_readings readings_back back_sum weight* divisor* denominator total coef* Σ tab_from
limits = refl

-- T34: runs made twice: sums L + 1, 0; -2 L, 2 L; and 2 L + 1, 0. Made eight times: 8 L, 0; and 8 L + 1, 0. At three levels, made four times: 4 L, 0, 0; and
-- 4 L + 1, 0, 0.
run-limits : recover_refused (made 2 two-runs) (pos (suc two_reading_limit) ∷ pos (suc two_reading_limit) ∷ []) pair
    ∷ recover_refused (made 2 two-runs) (pos 0 ∷ neg (4 * two_reading_limit) ∷ []) pair
    ∷ recover_refused (made 2 two-runs) (pos (suc (2 * two_reading_limit)) ∷ pos (suc (2 * two_reading_limit)) ∷ []) pair
    ∷ recover_refused (made 8 two-runs) (pos (8 * two_reading_limit) ∷ pos (8 * two_reading_limit) ∷ []) pair
    ∷ recover_refused (made 8 two-runs) (pos (suc (8 * two_reading_limit)) ∷ pos (suc (8 * two_reading_limit)) ∷ []) pair
    ∷ recover_refused (made 4 three-runs) (pos (4 * three_reading_limit) ∷ pos (4 * three_reading_limit) ∷ pos (4 * three_reading_limit) ∷ []) triple
    ∷ recover_refused (made 4 three-runs) (pos (suc (4 * three_reading_limit)) ∷ pos (suc (4 * three_reading_limit)) ∷ pos (suc (4 * three_reading_limit)) ∷ []) triple
    ∷ []
    ≡ 0 ∷ 0 ∷ 14 ∷ 0 ∷ 14 ∷ 0 ∷ 14 ∷ []
unfolding recover_refused with_plan plan_refused bad_levels bad_factors most_two most_three bad_counts bad_words bad_word bad_sign repeated dependent loses_factor factor_word any among beyond letters combined times some_combination combines_to some bits Σℕ wrong_length reading_limit two_reading_limit three_reading_limit factors_of size two three bad_repeats is_repeats most_readings no_readings readings_back back_sum weight* divisor* denominator total coef* Σ tab_from
run-limits = refl

-- L15: 16 before 11, 11 before 14; totals or readings not N long, with repeats too
first-number : recover_refused (made 3 two-runs) (pos 1 ∷ []) pair
    ∷ recover_refused four (pos 20 ∷ neg 6 ∷ neg 4 ∷ []) quadruple
    ∷ recover_refused four (pos 20 ∷ neg 6 ∷ neg 4 ∷ pos 3 ∷ []) triple
    ∷ recover_refused (made 2 two-runs) (pos 20 ∷ neg 4 ∷ []) quadruple
    ∷ []
    ≡ 16 ∷ 11 ∷ 11 ∷ 11 ∷ []
unfolding recover_refused with_plan plan_refused bad_levels bad_factors most_two most_three bad_counts bad_words bad_word bad_sign repeated dependent loses_factor factor_word any among beyond letters combined times some_combination combines_to some bits Σℕ wrong_length reading_limit two_reading_limit three_reading_limit factors_of size two three bad_repeats is_repeats most_readings no_readings readings_back back_sum weight* divisor* denominator total coef* Σ tab_from
first-number = refl

-- L2: refused with 14, with 11 for three totals and for a column of three, and with 16
unchanged : recover_column four (pos 20 ∷ neg 6 ∷ neg 4 ∷ pos 3 ∷ []) (pos 1 ∷ triple)
    ∷ recover_column four (pos 20 ∷ neg 6 ∷ neg 4 ∷ []) (pos 1 ∷ triple)
    ∷ recover_column four (pos 20 ∷ neg 6 ∷ neg 4 ∷ pos 2 ∷ []) (pos 1 ∷ pair)
    ∷ recover_column (made 3 two-runs) (pos 20 ∷ neg 4 ∷ []) (pos 1 ∷ pos 0 ∷ [])
    ∷ []
    ≡ (pos 1 ∷ triple) ∷ (pos 1 ∷ triple) ∷ (pos 1 ∷ pair) ∷ (pos 1 ∷ pos 0 ∷ []) ∷ []
unfolding recover_column recover_refused with_plan plan_refused bad_levels bad_factors most_two most_three bad_counts bad_words bad_word bad_sign repeated dependent loses_factor factor_word any among beyond letters combined times some_combination combines_to some bits Σℕ wrong_length reading_limit two_reading_limit three_reading_limit factors_of size two three bad_repeats is_repeats most_readings no_readings readings_back back_sum weight* divisor* denominator total coef* Σ tab_from
unchanged = refl
