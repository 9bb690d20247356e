-- Ways to block small plans, computed over the definitions.
--
--   Ac                           a word by its letters
--   one_word, two-words          the lists for three factors, of one block word and of two
--   three-words                  which of four lists of three words block a plan of four factors
--   how-many                     how many lists there are: of two and three factors for every number of words, of four and five for fewer
--   small-inputs, all-refused    the small inputs of 17 and 18; other inputs that are refused, some to which two numbers apply
--   all-admitted                 just enough places; where there is no list no place is needed
--   columns, refused-columns     what is left in columns of lists, and in those that are refused
use Rattle.std.specs.Prelude.{◌≡◌, refl, true, false, ℕ, length}
use mathlib.Core.List.{[], ◌∷◌, flatten}
use Rattle.algebra.specs.Bits.{bits}
use Rattle.algebra.specs.Naturals.{Σℕ}
use Rattle.algebra.specs.Search.{some}
use Rattle.algebra.specs.Tab.{tab_from}
use Rattle.algebra.specs.Those.{those}
use Rattle.contrasts.proofs.Factors.{two}
use Rattle.contrasts.specs.Limits.{most_two, most_three, is_repeats, most_readings}
use Rattle.contrasts.specs.Totals.{size}
use Rattle.words.specs.Words.{letters, beyond, times, combined, any, among, repeated}
use Rattle.plan.specs.Plan.{factors_of, some_combination, combines_to}
use Rattle.plan.specs.Check.{bad_levels, bad_factors, bad_counts, bad_word, bad_sign, bad_words, dependent, factor_word, loses_factor, bad_repeats, plan_refused}
use Rattle.plan.specs.Examples.{AB, BC, ABC, AD}
use Rattle.blockings.specs.Blockings.{lists_of, strictly_rising, is_blocking, blockings_of, bad_factor_count, bad_word_count, blockings_refused, blockings_column}

abbrev Ac : ℕ
Ac = 5

one_word : blockings_of 3 1 ≡ (AB ∷ []) ∷ (Ac ∷ []) ∷ (BC ∷ []) ∷ (ABC ∷ []) ∷ []
unfolding blockings_of lists_of is_blocking strictly_rising those flatten tab_from plan_refused bad_levels bad_factors most_two most_three bad_counts bad_words bad_word bad_sign repeated dependent loses_factor factor_word any among beyond letters combined times some_combination combines_to some bits Σℕ bad_repeats is_repeats most_readings factors_of size two
one_word = refl

-- with ABC any other word confounds a factor
two-words : blockings_of 3 2 ≡ (AB ∷ Ac ∷ []) ∷ (AB ∷ BC ∷ []) ∷ (Ac ∷ BC ∷ []) ∷ []
unfolding blockings_of lists_of is_blocking strictly_rising those flatten tab_from plan_refused bad_levels bad_factors most_two most_three bad_counts bad_words bad_word bad_sign repeated dependent loses_factor factor_word any among beyond letters combined times some_combination combines_to some bits Σℕ bad_repeats is_repeats most_readings factors_of size two
two-words = refl

-- R14: rising words that are accepted; the last two turned, and the first two; rising words of which the first two combine to the third
three-words : is_blocking 4 (AB ∷ Ac ∷ AD ∷ []) ∷ is_blocking 4 (AB ∷ AD ∷ Ac ∷ []) ∷ is_blocking 4 (Ac ∷ AB ∷ AD ∷ [])
    ∷ is_blocking 4 (AB ∷ Ac ∷ BC ∷ []) ∷ []
    ≡ true ∷ false ∷ false ∷ false ∷ []
unfolding blockings_of lists_of is_blocking strictly_rising those flatten tab_from plan_refused bad_levels bad_factors most_two most_three bad_counts bad_words bad_word bad_sign repeated dependent loses_factor factor_word any among beyond letters combined times some_combination combines_to some bits Σℕ bad_repeats is_repeats most_readings factors_of size two
three-words = refl

-- ---- how many there are

-- of two and three factors one, two and three words; of four one and two; of five one. The other three are counted by the programs of the gate
how-many : length (blockings_of 2 1) ∷ length (blockings_of 2 2) ∷ length (blockings_of 2 3)
    ∷ length (blockings_of 3 1) ∷ length (blockings_of 3 2) ∷ length (blockings_of 3 3)
    ∷ length (blockings_of 4 1) ∷ length (blockings_of 4 2)
    ∷ length (blockings_of 5 1) ∷ []
    ≡ 1 ∷ 0 ∷ 0 ∷ 4 ∷ 3 ∷ 0 ∷ 11 ∷ 39 ∷ 26 ∷ []
unfolding blockings_of lists_of is_blocking strictly_rising those flatten tab_from plan_refused bad_levels bad_factors most_two most_three bad_counts bad_words bad_word bad_sign repeated dependent loses_factor factor_word any among beyond letters combined times some_combination combines_to some bits Σℕ bad_repeats is_repeats most_readings factors_of size two
how-many = refl

-- ---- what is refused

-- N17, N18: three factors and no word; three places for the four lists of one word
small-inputs : blockings_refused 3 0 100 ∷ blockings_refused 3 1 3 ∷ [] ≡ 17 ∷ 18 ∷ []
unfolding blockings_of lists_of is_blocking strictly_rising those flatten tab_from plan_refused bad_levels bad_factors most_two most_three bad_counts bad_words bad_word bad_sign repeated dependent loses_factor factor_word any among beyond letters combined times some_combination combines_to some bits Σℕ bad_repeats is_repeats most_readings factors_of size two blockings_refused bad_factor_count bad_word_count
small-inputs = refl

-- L13: k of 1; k of 6 without a place, where 18 applies too; k of 6 with no word, where 17 does; four words; five places for three lists of two
-- words; a place less than the 26 words of five factors
all-refused : blockings_refused 1 1 100 ∷ blockings_refused 6 1 0 ∷ blockings_refused 6 0 100
    ∷ blockings_refused 3 4 100 ∷ blockings_refused 3 2 5 ∷ blockings_refused 5 1 25 ∷ []
    ≡ 3 ∷ 3 ∷ 3 ∷ 17 ∷ 18 ∷ 18 ∷ []
unfolding blockings_of lists_of is_blocking strictly_rising those flatten tab_from plan_refused bad_levels bad_factors most_two most_three bad_counts bad_words bad_word bad_sign repeated dependent loses_factor factor_word any among beyond letters combined times some_combination combines_to some bits Σℕ bad_repeats is_repeats most_readings factors_of size two blockings_refused bad_factor_count bad_word_count
all-refused = refl

all-admitted : blockings_refused 3 1 4 ∷ blockings_refused 3 2 6 ∷ blockings_refused 3 3 0 ∷ blockings_refused 5 1 26 ∷ [] ≡ 0 ∷ 0 ∷ 0 ∷ 0 ∷ []
unfolding blockings_of lists_of is_blocking strictly_rising those flatten tab_from plan_refused bad_levels bad_factors most_two most_three bad_counts bad_words bad_word bad_sign repeated dependent loses_factor factor_word any among beyond letters combined times some_combination combines_to some bits Σℕ bad_repeats is_repeats most_readings factors_of size two blockings_refused bad_factor_count bad_word_count
all-admitted = refl

-- ---- columns

-- R16: three lists of two words, and a place that is kept; no list of two words for two factors
columns : blockings_column 3 2 (9 ∷ 9 ∷ 9 ∷ 9 ∷ 9 ∷ 9 ∷ 9 ∷ []) ∷ blockings_column 2 2 (9 ∷ 8 ∷ 7 ∷ []) ∷ []
    ≡ (AB ∷ Ac ∷ AB ∷ BC ∷ Ac ∷ BC ∷ 9 ∷ []) ∷ (9 ∷ 8 ∷ 7 ∷ []) ∷ []
unfolding blockings_of lists_of is_blocking strictly_rising those flatten tab_from plan_refused bad_levels bad_factors most_two most_three bad_counts bad_words bad_word bad_sign repeated dependent loses_factor factor_word any among beyond letters combined times some_combination combines_to some bits Σℕ bad_repeats is_repeats most_readings factors_of size two blockings_refused blockings_column bad_factor_count bad_word_count
columns = refl

-- L2: with 18, and with 3, no place changes
refused-columns : blockings_column 3 1 (9 ∷ 8 ∷ 7 ∷ []) ∷ blockings_column 6 1 (9 ∷ 8 ∷ 7 ∷ []) ∷ [] ≡ (9 ∷ 8 ∷ 7 ∷ []) ∷ (9 ∷ 8 ∷ 7 ∷ []) ∷ []
unfolding blockings_of lists_of is_blocking strictly_rising those flatten tab_from plan_refused bad_levels bad_factors most_two most_three bad_counts bad_words bad_word bad_sign repeated dependent loses_factor factor_word any among beyond letters combined times some_combination combines_to some bits Σℕ bad_repeats is_repeats most_readings factors_of size two blockings_refused blockings_column bad_factor_count bad_word_count
refused-columns = refl
