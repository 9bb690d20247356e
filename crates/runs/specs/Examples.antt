-- Runs of small plans, computed over the definitions.
--
--   high-D, high-turned       D = ABC with sign 0 and with sign 1, in all eight runs
--   two_blocks, four-blocks   the blocks of ABC, and of AD and ABC
--   three-blocks              the blocks of AB and of AB2, of three-level plans, and of none
--   no_9, refusal-10          three levels are not refused; a run number that the plan does not have, at either level count
--   refusal-16                where the runs are made three times, or too often, it comes before that
use Rattle.std.specs.Prelude.{◌≡◌, refl, [], ◌∷◌, ◌++◌, map, ◌+◌, replicate}
use Rattle.algebra.specs.Naturals.{Σℕ}
use Rattle.algebra.specs.Bits.{bits}
use Rattle.algebra.specs.Search.{some}
use Rattle.algebra.specs.Tab.{tab, tab_from}
use Rattle.contrasts.specs.Limits.{most_two, most_three, is_repeats, most_readings}
use Rattle.contrasts.specs.Blocks.{digit_sum}
use Rattle.contrasts.proofs.Factors.{two, three}
use Rattle.contrasts.specs.Totals.{size}
use Rattle.words.specs.Words.{letters, beyond, shared, odd_in, times, combined, any, among, repeated}
use Rattle.plan.specs.Examples.{plan, made, ABC, AD}
use Rattle.plan.specs.Plan.{factors_of, some_combination, combines_to}
use Rattle.plan.specs.Check.{bad_levels, bad_factors, bad_counts, bad_word, bad_sign, bad_digits, used_digits, lowest_digit, bad_words, dependent, factor_word, loses_factor, bad_repeats, plan_refused, with_plan}
use Rattle.runs.specs.Run.{high_by, high_in, high_letters, block_number, run_values, run_refused}

-- P8: the eight runs (1), a, b, ab, c, ac, bc, abc; D is 8
high-D : tab 8 (high_letters 3 (ABC ∷ []) (0 ∷ [])) ≡ 0 ∷ 9 ∷ 10 ∷ 3 ∷ 12 ∷ 5 ∷ 6 ∷ 15 ∷ []
unfolding high_letters high_in high_by odd_in shared bits Σℕ tab_from
high-D = refl

-- P9
high-turned : tab 8 (high_letters 3 (ABC ∷ []) (1 ∷ [])) ≡ 8 ∷ 1 ∷ 2 ∷ 11 ∷ 4 ∷ 13 ∷ 14 ∷ 7 ∷ []
unfolding high_letters high_in high_by odd_in shared bits Σℕ tab_from
high-turned = refl

-- R4: bit 0 for the first block word
two_blocks : tab 8 (block_number (ABC ∷ [])) ≡ 0 ∷ 1 ∷ 1 ∷ 0 ∷ 1 ∷ 0 ∷ 0 ∷ 1 ∷ []
unfolding block_number odd_in shared bits Σℕ tab_from
two_blocks = refl

-- R4
four-blocks : tab 16 (block_number (AD ∷ ABC ∷ [])) ≡ 0 ∷ 3 ∷ 2 ∷ 1 ∷ 2 ∷ 1 ∷ 0 ∷ 3 ∷ 1 ∷ 2 ∷ 3 ∷ 0 ∷ 3 ∷ 0 ∷ 1 ∷ 2 ∷ []
unfolding block_number odd_in shared bits Σℕ tab_from
four-blocks = refl

-- R11, R12: the nine runs of k = 2 with word 4, which is AB, with word 7, which is AB2, and without a word: no letters, and the block
three-blocks : tab 9 (run_values (plan 3 2 [] [] (4 ∷ []))) ++ (tab 9 (run_values (plan 3 2 [] [] (7 ∷ []))) ++ tab 9 (run_values (plan 3 2 [] [] [])))
    ≡ map (λ b. (0, b)) (
    (0 ∷ 1 ∷ 2 ∷ 1 ∷ 2 ∷ 0 ∷ 2 ∷ 0 ∷ 1 ∷ [])
    ++ ((0 ∷ 1 ∷ 2 ∷ 2 ∷ 0 ∷ 1 ∷ 1 ∷ 2 ∷ 0 ∷ [])
    ++ replicate 9 0))
unfolding factors_of digit_sum three tab_from
three-blocks = refl

-- N9: "no 9 from the run call"
no_9 : run_refused (plan 3 1 [] [] []) 0 ≡ 0
unfolding run_refused with_plan plan_refused bad_levels bad_factors most_two most_three bad_counts bad_words bad_word bad_sign bad_digits used_digits lowest_digit repeated dependent loses_factor factor_word any among beyond letters combined times some_combination combines_to some bits Σℕ bad_repeats is_repeats most_readings factors_of size two three
no_9 = refl

-- N10: k = 2, runs 3 and 4; at three levels k = 3 with word 22, which is ABC2, runs 26 and 27
refusal-10 : tab 2 (λ i. run_refused (plan 2 2 [] [] []) (3 + i)) ++ tab 2 (λ i. run_refused (plan 3 3 [] [] (22 ∷ [])) (26 + i)) ≡ 0 ∷ 10 ∷ 0 ∷ 10 ∷ []
unfolding run_refused with_plan plan_refused bad_levels bad_factors most_two most_three bad_counts bad_words bad_word bad_sign bad_digits used_digits lowest_digit repeated dependent loses_factor factor_word any among beyond letters combined times some_combination combines_to some bits Σℕ bad_repeats is_repeats most_readings factors_of size two three tab_from
refusal-10 = refl

-- L12: 16 comes before 10: three times at levels 3, k = 1, run 3, and at k = 2, run 4; twice at k = 10, run 1,024
refusal-16 : run_refused (made 3 (plan 3 1 [] [] [])) 3 ∷ run_refused (made 3 (plan 2 2 [] [] [])) 4 ∷ run_refused (made 2 (plan 2 10 [] [] [])) 1024 ∷ []
    ≡ 16 ∷ 16 ∷ 16 ∷ []
unfolding run_refused with_plan plan_refused bad_levels bad_factors most_two most_three bad_counts bad_words bad_word bad_sign bad_digits used_digits lowest_digit repeated dependent loses_factor factor_word any among beyond letters combined times some_combination combines_to some bits Σℕ bad_repeats is_repeats most_readings factors_of size two three
refusal-16 = refl
