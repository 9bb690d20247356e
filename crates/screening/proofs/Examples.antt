-- Plans of the published tables and others, and numbers of the screening call, computed over the definitions.
--
--   fraction k words     the two-level plan of k base factors and added factors of these words, with sign 0
--   amcp                 the eight plans of AMCP 706-112, Table 12-4: effects meet in plans 1, 4 and 6
--   daniel               Daniel's quarter, D = Ac with sign 0 and E = AB with sign 1: in print D = -AC and E = AB
--   with-added           effects that meet among added factors alone; a base factor's with two added ones'; two base factors' that are no
--                        neighbours with an added one's; the fifth of five added factors' with others'
--   sign-aside           the sign of an added factor plays no part
--   beyond-counts        nor does a word beyond the plan's count
--   never                nothing meets without an added factor, whatever the blocks
--   by_three             the same by three factors' words
--   words, pair          the base words of the factors of plan 2, and of a pair
--   order-of-checks      the numbers, one by one and where several apply
--   marked-mains         13 for a marked main effect, base or added; other rows may be marked as in the table call
--   marked-added         the same of the second and the fourth added factor, of one whose word is even and whose sign is 1; and of other rows
--   as-in-the-table      repeats and blocks are as in the table call
--   made-columns, unchanged   a table that is made, and a call that is refused
use Rattle.std.specs.Prelude.{◌≡◌, refl, true, false, cond, List, [], ◌∷◌, ◌++◌, map, ℕ, ℤ, pos, length, replicate}
use Rattle.algebra.specs.Naturals.{Σℕ}
use Rattle.algebra.specs.Bits.{bits}
use Rattle.algebra.specs.Search.{some}
use Rattle.algebra.specs.Sorted.{sum_at}
use Rattle.algebra.specs.Sum.{Σ}
use Rattle.algebra.specs.Tab.{tab, tab_from}
use Rattle.contrasts.specs.Codings.{neg}
use Rattle.contrasts.specs.Columns.{run_sums_in, totals_of}
use Rattle.contrasts.specs.Repeats.{run_sums}
use Rattle.contrasts.specs.Rows.{row_of}
use Rattle.contrasts.specs.Limits.{two_reading_limit, three_reading_limit, most_two, most_three, is_repeats, most_readings}
use Rattle.contrasts.proofs.Factors.{two, three}
use Rattle.contrasts.specs.Totals.{size, total, coef*, divisor*, denominator, weight*, numerator_of}
use Rattle.words.specs.Words.{letters, beyond, times, combined, any, among, repeated}
use Rattle.plan.specs.declared.types.Plan.{Plan}
use Rattle.plan.specs.Examples.{plan, made, AB, BC, ABC, AD, BCD}
use Rattle.plan.specs.Limits.{reading_limit, is_beyond}
use Rattle.plan.specs.Plan.{factors_of, some_combination, combines_to}
use Rattle.plan.specs.Check.{bad_levels, bad_factors, bad_counts, bad_word, bad_sign, bad_words, dependent, factor_word, loses_factor, bad_repeats, plan_refused, with_plan}
use Rattle.aliases.specs.Alias.{base_word}
use Rattle.columns.specs.Refusals.{wrong_length, wrong_readings, any_beyond}
use Rattle.rows.specs.Kinds.{wrong_rows, bad_mark, bad_marks}
use Rattle.anova.specs.Table.{wrong_lengths, block_amount, row_left, rows_of}
use Rattle.screening.specs.Screening.{main_words, pair_word, meet, marked_main, screen_refused, screen_totals, screen_rows}
use Rattle.screening.proofs.Laws.Resolution.{three_combine}

abbrev Ac : ℕ
Ac = 5

abbrev ABD : ℕ
ABD = 11

abbrev ACD : ℕ
ACD = 13

abbrev ABCD : ℕ
ABCD = 15

abbrev ADE : ℕ
ADE = 25

abbrev BCDE : ℕ
BCDE = 30

abbrev fraction : ℕ → List ℕ → Plan
fraction k words = plan 2 k words (replicate (length words) 0) []

-- ---- effects that meet

-- plans 2 and 4
abbrev half : Plan
half = fraction 3 (ABC ∷ [])

abbrev plan_four : Plan
plan_four = fraction 3 (ABC ∷ BC ∷ [])

abbrev amcp_plans : List Plan
amcp_plans =
    fraction 2 (AB ∷ [])
    ∷ half
    ∷ fraction 4 (ABCD ∷ [])
    ∷ plan_four
    ∷ fraction 4 (ABC ∷ BCD ∷ [])
    ∷ fraction 3 (ABC ∷ BC ∷ Ac ∷ [])
    ∷ fraction 4 (ABC ∷ BCD ∷ ABD ∷ [])
    ∷ fraction 4 (ABC ∷ BCD ∷ ABD ∷ ACD ∷ [])
    ∷ []

-- V21
amcp : map meet amcp_plans ≡ true ∷ false ∷ false ∷ true ∷ false ∷ true ∷ false ∷ false ∷ []
unfolding meet some any among base_word combined times bits Σℕ tab_from
amcp = refl

abbrev daniel_plan : Plan
daniel_plan = plan 2 3 (Ac ∷ AB ∷ []) (0 ∷ 1 ∷ []) []

daniel : meet daniel_plan ≡ true
unfolding meet some any among base_word combined times bits Σℕ tab_from
daniel = refl

-- F = ABC, G = ADE and H = BCDE: H and FG; E = ABC and F = ABCD: D and EF; E = Ac and F = ABCD: E and Ac; plan 8 with I = ABCD: I and AF
abbrev added_plans : List Plan
added_plans =
    fraction 5 (ABC ∷ ADE ∷ BCDE ∷ [])
    ∷ fraction 4 (ABC ∷ ABCD ∷ [])
    ∷ fraction 4 (Ac ∷ ABCD ∷ [])
    ∷ fraction 4 (ABC ∷ BCD ∷ ABD ∷ ACD ∷ ABCD ∷ [])
    ∷ []

with-added : map meet added_plans ≡ true ∷ true ∷ true ∷ true ∷ []
unfolding meet some any among base_word combined times bits Σℕ tab_from
with-added = refl

-- C = AB with sign 1: C and AB; with sign 0 it is AMCP's plan 1
sign-aside : meet (plan 2 2 (AB ∷ []) (1 ∷ []) []) ≡ true
unfolding meet some any among base_word combined times bits Σℕ tab_from
sign-aside = refl

-- of the words ABC and BC the first alone
abbrev first_alone : Plan
first_alone = record {
  levels = 2;
  k = 3;
  added = 1;
  words = ABC ∷ BC ∷ replicate 4 0;
  signs = replicate 6 0;
  blocks = 0;
  blockwords = replicate 4 0;
  repeats = 1;
}

-- P10
beyond-counts : meet first_alone ≡ false
unfolding meet some any among base_word combined times bits Σℕ tab_from
beyond-counts = refl

-- with the block word ABC, and with AD and ABC
never : meet (plan 2 4 [] [] []) ∷ meet (plan 2 3 [] [] (ABC ∷ [])) ∷ meet (plan 2 4 [] [] (AD ∷ ABC ∷ [])) ∷ [] ≡ false ∷ false ∷ false ∷ []
unfolding meet some any among base_word combined times bits Σℕ tab_from
never = refl

by_three : map three_combine amcp_plans ++ map three_combine added_plans
    ≡ true ∷ false ∷ false ∷ true ∷ false ∷ true ∷ false ∷ false ∷ true ∷ true ∷ true ∷ true ∷ []
unfolding three_combine some base_word combined times bits Σℕ
by_three = refl

-- V21: A, B, C and D = ABC; AD reduces to BC
words : main_words half ≡ 1 ∷ 2 ∷ 4 ∷ ABC ∷ []
unfolding base_word combined times bits Σℕ tab_from
words = refl

pair : pair_word half 0 3 ≡ BC
unfolding base_word combined times bits Σℕ
pair = refl

-- ---- numbers

abbrev zeros : List ℤ
zeros = replicate 8 (pos 0)

abbrev none : List ℕ
none = replicate 8 0

-- of columns that fit eight runs
abbrev number : Plan → List ℕ → ℕ
number p marks = screen_refused p zeros marks zeros none

-- L14: none; 21; 16 before 21; 9; 16 before 9; 21 before 11; 21 before 12 and 13; 9 before 11; 11; 12 before 13 for a main effect; 4 before 21 and 9
order-of-checks : number half none
    ∷ number plan_four none
    ∷ number (made 3 plan_four) none
    ∷ screen_refused (plan 3 2 [] [] []) (replicate 9 (pos 0)) (replicate 4 0) (replicate 9 (pos 0)) (replicate 4 0)
    ∷ number (made 3 (plan 3 2 [] [] [])) none
    ∷ screen_refused plan_four [] (1 ∷ []) [] []
    ∷ screen_refused plan_four (replicate 8 (pos 1_000_001)) (1 ∷ 0 ∷ 0 ∷ 0 ∷ 0 ∷ 0 ∷ 0 ∷ 0 ∷ []) zeros none
    ∷ screen_refused (plan 3 2 [] [] []) [] [] [] []
    ∷ screen_refused half [] none zeros none
    ∷ screen_refused half (replicate 8 (pos 1_000_001)) (0 ∷ 1 ∷ 0 ∷ 0 ∷ 0 ∷ 0 ∷ 0 ∷ 0 ∷ []) zeros none
    ∷ number (plan 3 3 (AB ∷ []) (0 ∷ []) []) none
    ∷ []
    ≡ 0 ∷ 21 ∷ 16 ∷ 9 ∷ 16 ∷ 21 ∷ 21 ∷ 9 ∷ 11 ∷ 12 ∷ 4 ∷ []
unfolding screen_refused marked_main meet wrong_lengths wrong_rows wrong_readings wrong_length any_beyond is_beyond bad_marks bad_mark with_plan plan_refused bad_levels bad_factors most_two most_three bad_counts bad_words bad_word bad_sign repeated dependent loses_factor factor_word bad_repeats is_repeats most_readings any among beyond letters combined times some_combination combines_to some bits Σℕ reading_limit two_reading_limit three_reading_limit factors_of size two three base_word tab_from
order-of-checks = refl

-- V22: rows A, B, C and ABC, which is D's, may not be marked; AB, Ac and BC may; the mean, and a mark of 2 on AB, are the table call's
marked-mains : map (number half)
    ((0 ∷ 1 ∷ 0 ∷ 0 ∷ 0 ∷ 0 ∷ 0 ∷ 0 ∷ [])
    ∷ (0 ∷ 0 ∷ 1 ∷ 0 ∷ 0 ∷ 0 ∷ 0 ∷ 0 ∷ [])
    ∷ (0 ∷ 0 ∷ 0 ∷ 0 ∷ 1 ∷ 0 ∷ 0 ∷ 0 ∷ [])
    ∷ (0 ∷ 0 ∷ 0 ∷ 0 ∷ 0 ∷ 0 ∷ 0 ∷ 1 ∷ [])
    ∷ (0 ∷ 0 ∷ 0 ∷ 1 ∷ 0 ∷ 1 ∷ 1 ∷ 0 ∷ [])
    ∷ (1 ∷ 0 ∷ 0 ∷ 0 ∷ 0 ∷ 0 ∷ 0 ∷ 0 ∷ [])
    ∷ (0 ∷ 0 ∷ 0 ∷ 2 ∷ 0 ∷ 0 ∷ 0 ∷ 0 ∷ [])
    ∷ [])
    ≡ 13 ∷ 13 ∷ 13 ∷ 13 ∷ 0 ∷ 13 ∷ 13 ∷ []
unfolding screen_refused marked_main meet wrong_lengths wrong_rows wrong_readings wrong_length any_beyond is_beyond bad_marks bad_mark with_plan plan_refused bad_levels bad_factors most_two most_three bad_counts bad_words bad_word bad_sign repeated dependent loses_factor factor_word bad_repeats is_repeats most_readings any among beyond letters combined times some_combination combines_to some bits Σℕ reading_limit two_reading_limit three_reading_limit factors_of size two three base_word tab_from
marked-mains = refl

-- of columns that fit sixteen runs, with these rows marked
abbrev sixteen : Plan → List ℕ → ℕ
sixteen p rows = screen_refused p (replicate 16 (pos 0)) (tab 16 (λ w. cond (among w rows) 1 0)) (replicate 16 (pos 0)) (replicate 16 0)

-- V22: plan 5, E = ABC and F = BCD, with the row BCD marked; plan 8 with ACD, which is H's; E = ABCD with sign 1, with ABCD; plan 5 with ABD
-- and ACD, and a whole plan with ABC and ABCD, which are no main effects'
marked-added : sixteen (fraction 4 (ABC ∷ BCD ∷ [])) (BCD ∷ [])
    ∷ sixteen (fraction 4 (ABC ∷ BCD ∷ ABD ∷ ACD ∷ [])) (ACD ∷ [])
    ∷ sixteen (plan 2 4 (ABCD ∷ []) (1 ∷ []) []) (ABCD ∷ [])
    ∷ sixteen (fraction 4 (ABC ∷ BCD ∷ [])) (ABD ∷ ACD ∷ [])
    ∷ sixteen (plan 2 4 [] [] []) (ABC ∷ ABCD ∷ [])
    ∷ []
    ≡ 13 ∷ 13 ∷ 13 ∷ 0 ∷ 0 ∷ []
unfolding screen_refused marked_main meet wrong_lengths wrong_rows wrong_readings wrong_length any_beyond is_beyond bad_marks bad_mark with_plan plan_refused bad_levels bad_factors most_two most_three bad_counts bad_words bad_word bad_sign repeated dependent loses_factor factor_word bad_repeats is_repeats most_readings any among beyond letters combined times some_combination combines_to some bits Σℕ reading_limit two_reading_limit three_reading_limit factors_of size two three base_word tab_from
marked-added = refl

-- V23: sixteen readings of eight runs made twice, and eight, which are too few; in blocks by AB, without a mark and with one on AB
as-in-the-table : screen_refused (made 2 half) (replicate 16 (pos 0)) none zeros none
    ∷ number (made 2 half) none
    ∷ number (plan 2 3 (ABC ∷ []) (0 ∷ []) (AB ∷ [])) none
    ∷ number (plan 2 3 (ABC ∷ []) (0 ∷ []) (AB ∷ [])) (0 ∷ 0 ∷ 0 ∷ 1 ∷ 0 ∷ 0 ∷ 0 ∷ 0 ∷ [])
    ∷ []
    ≡ 0 ∷ 11 ∷ 0 ∷ 13 ∷ []
unfolding screen_refused marked_main meet wrong_lengths wrong_rows wrong_readings wrong_length any_beyond is_beyond bad_marks bad_mark with_plan plan_refused bad_levels bad_factors most_two most_three bad_counts bad_words bad_word bad_sign repeated dependent loses_factor factor_word bad_repeats is_repeats most_readings any among beyond letters combined times some_combination combines_to some bits Σℕ reading_limit two_reading_limit three_reading_limit factors_of size two three base_word tab_from
as-in-the-table = refl

-- ---- columns

abbrev sevens : List ℤ
sevens = replicate 8 (pos 7)

abbrev fives : List ℕ
fives = replicate 8 5

abbrev readings : List ℤ
readings = pos 3 ∷ pos 5 ∷ pos 4 ∷ pos 8 ∷ pos 2 ∷ pos 6 ∷ pos 7 ∷ pos 9 ∷ []

-- V23: the totals and rows of the table call
made-columns : (screen_totals half readings none sevens fives ≡ pos 44 ∷ neg 12 ∷ neg 12 ∷ pos 0 ∷ neg 4 ∷ pos 0 ∷ pos 4 ∷ pos 4 ∷ [])
    × (screen_rows half readings none sevens fives ≡ 1936 ∷ 144 ∷ 144 ∷ 0 ∷ 16 ∷ 0 ∷ 16 ∷ 16 ∷ [])
unfolding screen_totals screen_rows rows_of row_left block_amount run_sums_in run_sums totals_of total coef* divisor* denominator weight* numerator_of row_of sum_at Σ screen_refused marked_main meet wrong_lengths wrong_rows wrong_readings wrong_length any_beyond is_beyond bad_marks bad_mark with_plan plan_refused bad_levels bad_factors most_two most_three bad_counts bad_words bad_word bad_sign repeated dependent loses_factor factor_word bad_repeats is_repeats most_readings any among beyond letters combined times some_combination combines_to some bits Σℕ reading_limit two_reading_limit three_reading_limit factors_of size two three base_word tab_from
made-columns = (refl, refl)

-- L2: the same, of a plan that is refused
unchanged : (screen_totals plan_four readings none sevens fives ≡ sevens) × (screen_rows plan_four readings none sevens fives ≡ fives)
unfolding screen_totals screen_rows screen_refused marked_main meet wrong_lengths wrong_rows wrong_readings wrong_length any_beyond is_beyond bad_marks bad_mark with_plan plan_refused bad_levels bad_factors most_two most_three bad_counts bad_words bad_word bad_sign repeated dependent loses_factor factor_word bad_repeats is_repeats most_readings any among beyond letters combined times some_combination combines_to some bits Σℕ reading_limit two_reading_limit three_reading_limit factors_of size two three base_word tab_from
unchanged = (refl, refl)
