-- The runs of section 11 of the rules that concern totals and divisors, and a plan in three blocks, computed over the definitions.
--
--   four-*       readings 3, 5, 4, 8
--   three-*      three levels, 2, 5, 3
--   eight-*      readings 1 to 8
--   one-factor-* k = 1, -100,000 and 100,000
--   nine-*       two three-level factors
--   block-*      two three-level factors in three blocks
--   places       a place by its digits, and with another digit
use Rattle.std.specs.Prelude.{◌≡◌, refl, List, [], ◌∷◌, ℕ, suc, ◌*◌, ℤ, pos}
use Rattle.algebra.specs.Naturals.{Σℕ}
use Rattle.algebra.specs.Sorted.{sum_at}
use Rattle.algebra.specs.Sum.{Σ}
use Rattle.algebra.specs.Tab.{tab, tab_from}
use Rattle.contrasts.specs.Columns.{read, run_sums_in, totals_of, pass_of, passes_of, step_of, steps_of}
use Rattle.contrasts.specs.Factor.{Factor}
use Rattle.contrasts.specs.Rows.{row_of, degrees_of, row_numerator}
use Rattle.contrasts.proofs.Factors.{two, three}
use Rattle.contrasts.specs.Codings.{neg}
use Rattle.contrasts.specs.Totals.{size, coef*, total, divisor*, denominator, weight*, numerator_of, numerator, squared}
use Rattle.contrasts.specs.Passes.{digit_at, with_digit, pass_from, pass_at}
use Rattle.contrasts.specs.Steps.{step}
use Rattle.contrasts.specs.Blocks.{digit_sum, block_of, block_runs, block_sum, block_numerator}
use Rattle.contrasts.specs.Repeats.{run_sums}
use Rattle.contrasts.specs.Checks.{check_weight, round, rounds}

-- ---- X1: "Readings 3, 5, 4, 8: totals 20, -6, -4, 2; numerators 400, 36, 16, 4; sum 456, which is 4 times 114; check 12."

abbrev four : List ℤ
four = pos 3 ∷ pos 5 ∷ pos 4 ∷ pos 8 ∷ []

abbrev AB : List Factor
AB = two ∷ two ∷ []

four-totals : totals_of AB four ≡ pos 20 ∷ neg 6 ∷ neg 4 ∷ pos 2 ∷ []
unfolding totals_of total coef* size Σ tab_from two
four-totals = refl

-- by passes, A and then B; or B, a number that names no factor, and then A
four-passes : passes_of AB (0 ∷ 1 ∷ []) four ≡ pos 20 ∷ neg 6 ∷ neg 4 ∷ pos 2 ∷ []
unfolding passes_of pass_of pass_from pass_at size Σ tab_from two
four-passes = refl

four-passes-again : passes_of AB (1 ∷ 2 ∷ 0 ∷ []) four ≡ pos 20 ∷ neg 6 ∷ neg 4 ∷ pos 2 ∷ []
unfolding passes_of pass_of pass_from pass_at size Σ tab_from two
four-passes-again = refl

-- by steps: sums 8 and 12, then differences -2 and -4
four-step : step_of 4 two four ≡ pos 8 ∷ pos 12 ∷ neg 2 ∷ neg 4 ∷ []
unfolding step_of step Σ tab_from two
four-step = refl

four-steps : steps_of 4 AB four ≡ pos 20 ∷ neg 6 ∷ neg 4 ∷ pos 2 ∷ []
unfolding steps_of step_of step Σ tab_from two
four-steps = refl

four-numerators : tab 4 (numerator AB (read four)) ≡ 400 ∷ 36 ∷ 16 ∷ 4 ∷ []
unfolding numerator_of total coef* weight* denominator divisor* size Σ tab_from two
four-numerators = refl

four-sum : Σℕ 4 (numerator AB (read four)) ≡ 456
unfolding Σℕ numerator_of total coef* weight* denominator divisor* size Σ two
four-sum = refl

four-squared : denominator AB * squared AB (read four) ≡ 4 * 114
unfolding squared Σℕ denominator size two
four-squared = refl

four-check : Σ 4 (total AB (read four)) ≡ pos 12
unfolding total coef* size Σ two
four-check = refl

four-rounds : rounds AB (read four) ≡ pos 12
unfolding rounds round check_weight Σ two
four-rounds = refl

-- ---- X2: "Three levels, 2, 5, 3: totals 10, -1, -5; numerators 200, 3, 25; row A 28 with 2 degrees; check 4."

abbrev threes : List ℤ
threes = pos 2 ∷ pos 5 ∷ pos 3 ∷ []

abbrev A3 : List Factor
A3 = three ∷ []

three-totals : totals_of A3 threes ≡ pos 10 ∷ neg 1 ∷ neg 5 ∷ []
unfolding totals_of total coef* size Σ tab_from three
three-totals = refl

three-passes : passes_of A3 (0 ∷ []) threes ≡ pos 10 ∷ neg 1 ∷ neg 5 ∷ []
unfolding passes_of pass_of pass_from pass_at size Σ tab_from three
three-passes = refl

three-steps : steps_of 3 A3 threes ≡ pos 10 ∷ neg 1 ∷ neg 5 ∷ []
unfolding steps_of step_of step Σ tab_from three
three-steps = refl

three-numerators : tab 3 (numerator A3 (read threes)) ≡ 200 ∷ 3 ∷ 25 ∷ []
unfolding numerator_of total coef* weight* denominator divisor* size Σ tab_from three
three-numerators = refl

-- effects 1 and 2 are those of row A, 3 and 25, which has 2 degrees
three-rows : tab 3 (row_of A3) ≡ 0 ∷ 1 ∷ 1 ∷ []
unfolding row_of tab_from three
three-rows = refl

three-degrees : tab 2 (degrees_of A3) ≡ 1 ∷ 2 ∷ []
unfolding degrees_of tab_from three
three-degrees = refl

three-check : Σ 3 (total A3 (read threes)) ≡ pos 4
unfolding total coef* size Σ three
three-check = refl

three-rounds : rounds A3 (read threes) ≡ pos 4
unfolding rounds round check_weight Σ three
three-rounds = refl

-- ---- X3: "Readings 1 to 8 [..]: totals 36, -4, -8, 0, -16, 0, 0, 0"

abbrev eight : List ℤ
eight = tab 8 (λ i. pos (suc i))

eight-totals : totals_of (two ∷ two ∷ two ∷ []) eight ≡ pos 36 ∷ neg 4 ∷ neg 8 ∷ pos 0 ∷ neg 16 ∷ pos 0 ∷ pos 0 ∷ pos 0 ∷ []
unfolding totals_of total coef* size Σ tab_from two
eight-totals = refl

-- ---- X4: "k = 1, -100,000 and 100,000: totals 0, -200,000"

one-factor-totals : totals_of (two ∷ []) (neg 100_000 ∷ pos 100_000 ∷ []) ≡ pos 0 ∷ neg 200_000 ∷ []
unfolding totals_of total coef* size Σ tab_from two
one-factor-totals = refl

-- ---- X6: "Two three-level factors: divisors 9, 6, 18, 6, 4, 12, 18, 12, 36."

abbrev AB3 : List Factor
AB3 = three ∷ three ∷ []

nine-divisors : tab 9 (divisor* AB3) ≡ 9 ∷ 6 ∷ 18 ∷ 6 ∷ 4 ∷ 12 ∷ 18 ∷ 12 ∷ 36 ∷ []
unfolding divisor* tab_from three
nine-divisors = refl

-- ---- R11, V17 to V20: two three-level factors in blocks by word 4, digits 1 and 1, and by word 7, digits 1 and 2 from A on; readings 2, 5, 3,
-- 1, 4, 6, 7, 8, 9

abbrev nine : List ℤ
nine = pos 2 ∷ pos 5 ∷ pos 3 ∷ pos 1 ∷ pos 4 ∷ pos 6 ∷ pos 7 ∷ pos 8 ∷ pos 9 ∷ []

block-of-four : tab (size AB3) (block_of AB3 4) ≡ 0 ∷ 1 ∷ 2 ∷ 1 ∷ 2 ∷ 0 ∷ 2 ∷ 0 ∷ 1 ∷ []
unfolding digit_sum size tab_from three
block-of-four = refl

block-of-seven : tab (size AB3) (block_of AB3 7) ≡ 0 ∷ 1 ∷ 2 ∷ 2 ∷ 0 ∷ 1 ∷ 1 ∷ 2 ∷ 0 ∷ []
unfolding digit_sum size tab_from three
block-of-seven = refl

-- three runs a block
block-counts : tab 3 (block_runs AB3 4) ≡ 3 ∷ 3 ∷ 3 ∷ []
unfolding digit_sum size Σℕ tab_from three
block-counts = refl

block-sums : tab 3 (block_sum AB3 4 (read nine)) ≡ pos 16 ∷ pos 15 ∷ pos 14 ∷ []
unfolding digit_sum size Σ tab_from three
block-sums = refl

-- over 36: 36 times (256 + 225 + 196) over 3 is 8124, less the mean's 8100
block-amount : block_numerator AB3 1 4 (read nine) ≡ 24
unfolding block_numerator digit_sum numerator_of total coef* weight* denominator divisor* size Σ Σℕ three
block-amount = refl

-- the word's letters are A and B, and the amount leaves 216 of their row's 240
block_row : (row_of AB3 4 ≡ 3) × (row_numerator AB3 (read nine) 3 ≡ 240)
unfolding row_of sum_at numerator_of total coef* weight* denominator divisor* size Σ Σℕ three
block_row = (refl, refl)

-- runs made twice, whose sums are those readings: over 72, and the amount is the same
abbrev twice : List ℤ
twice =
    pos 1 ∷ pos 1 ∷ pos 2 ∷ pos 3 ∷ pos 1 ∷ pos 2
    ∷ pos 0 ∷ pos 1 ∷ pos 2 ∷ pos 2 ∷ pos 3 ∷ pos 3
    ∷ pos 3 ∷ pos 4 ∷ pos 4 ∷ pos 4 ∷ pos 4 ∷ pos 5 ∷ []

block-run-sums : run_sums_in 9 2 twice ≡ nine
unfolding run_sums_in run_sums Σ tab_from
block-run-sums = refl

block-amount-twice : block_numerator AB3 2 4 (read (run_sums_in 9 2 twice)) ≡ 24
unfolding run_sums_in run_sums tab_from block_numerator digit_sum numerator_of total coef* weight* denominator divisor* size Σ Σℕ three
block-amount-twice = refl

-- ---- place 14, which is 112 to the base 3, and with the digit 2 where 3 stands

abbrev placed : List ℕ
placed = digit_at 1 3 14 ∷ digit_at 3 3 14 ∷ digit_at 9 3 14 ∷ with_digit 3 3 2 14 ∷ []

places : placed ≡ 2 ∷ 1 ∷ 1 ∷ 17 ∷ []
places = refl
