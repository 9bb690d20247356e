-- Small tables, computed over the definitions. The starred runs are in the crate `claims`.
--
--   four-figures     readings 3, 5, 4, 8 with marks 0, 0, 0, 1
--   three-figures    two three-level factors, the interaction pooled
--   block-figures    eight readings in two blocks, the block word being ABC
--   twice-figures    the readings of the first, of two runs made twice
--   amount-figures   nine readings in three blocks, the block word being AB: the row AB kept, and marked as error
--   amount-rows      its rows
--   amount-twice     with every run made twice
--   amount-marks     refusal 13 of that plan's marks
--   lengths          refusal 11, slice by slice
--   more-often       refusals 11 and 16, of runs made more than once
--   small-inputs     refusals 12 and 13, and the first number where several apply
--   unchanged        a table that is refused
use Rattle.std.specs.Prelude.{◌≡◌, refl, List, [], ◌∷◌, ◌++◌, ℕ, ℤ, pos}
use Rattle.algebra.specs.Naturals.{Σℕ}
use Rattle.algebra.specs.Bits.{bits}
use Rattle.algebra.specs.Search.{some}
use Rattle.algebra.specs.Sorted.{sum_at}
use Rattle.algebra.specs.Sum.{Σ}
use Rattle.algebra.specs.Tab.{tab_from}
use Rattle.contrasts.specs.Blocks.{digit_sum, block_numerator}
use Rattle.contrasts.specs.Columns.{run_sums_in, squares_of}
use Rattle.contrasts.specs.Limits.{two_reading_limit, three_reading_limit, most_two, most_three, is_repeats, most_readings}
use Rattle.contrasts.specs.Repeats.{run_sums, within_runs}
use Rattle.contrasts.specs.Rows.{row_of, degrees_of}
use Rattle.contrasts.proofs.Factors.{two, three}
use Rattle.contrasts.specs.Codings.{neg}
use Rattle.contrasts.specs.Totals.{size, coef*, total, divisor*, denominator, weight*, numerator_of}
use Rattle.contrasts.specs.Checks.{check_weight, round, rounds}
use Rattle.words.specs.Words.{letters, beyond, times, combined, any, among, repeated}
use Rattle.plan.specs.declared.types.Plan.{Plan}
use Rattle.plan.specs.Examples.{plan, made, ABC, AD}
use Rattle.plan.specs.Limits.{reading_limit, is_beyond}
use Rattle.plan.specs.Plan.{factors_of, some_combination, combines_to}
use Rattle.plan.specs.Check.{bad_levels, bad_factors, bad_counts, bad_word, bad_sign, bad_digits, used_digits, lowest_digit, bad_words, dependent, factor_word, loses_factor, bad_repeats, plan_refused, with_plan}
use Rattle.columns.specs.Refusals.{wrong_length, wrong_readings, any_beyond}
use Rattle.rows.specs.Kinds.{wrong_rows, kind_by_mark, kind_of, bad_mark, bad_marks}
use Rattle.anova.specs.declared.types.Figures.{Figures}
use Rattle.anova.specs.Table.{wrong_lengths, table_refused, block_source, block_degrees, block_amount, row_degrees, row_left, source_of, within_source, joined, total_source, checks_of, table_figures, rows_of, table_totals, table_rows}

-- degrees and numerators of mean, kept, blocks, error and total, after the denominator; then both check numbers
abbrev numbers : Figures → List ℤ
numbers f =
    pos f.denominator
    ∷ pos f.mean.degrees ∷ pos f.mean.numerator
    ∷ pos f.kept.degrees ∷ pos f.kept.numerator
    ∷ pos f.blocks.degrees ∷ pos f.blocks.numerator
    ∷ pos f.error.degrees ∷ pos f.error.numerator
    ∷ pos f.total.degrees ∷ pos f.total.numerator
    ∷ f.checks.totals ∷ f.checks.readings
    ∷ []

abbrev four : Plan
four = plan 2 2 [] [] []

abbrev twice : Plan
twice = made 2 (plan 2 1 [] [] [])

abbrev readings : List ℤ
readings = pos 3 ∷ pos 5 ∷ pos 4 ∷ pos 8 ∷ []

-- W4: "over 4", "mean 1 400", "A 1 36" and "B 1 16" kept, "blocks 0 0", "error 1 4", "total 4 456", "check 12 12"
four-figures : numbers (table_figures four readings (0 ∷ 0 ∷ 0 ∷ 1 ∷ []))
    ≡ pos 4 ∷ pos 1 ∷ pos 400 ∷ pos 2 ∷ pos 52 ∷ pos 0 ∷ pos 0 ∷ pos 1 ∷ pos 4 ∷ pos 4 ∷ pos 456 ∷ pos 12 ∷ pos 12 ∷ []
unfolding table_figures source_of row_degrees row_left block_source block_degrees block_amount within_source joined total_source checks_of within_runs run_sums_in run_sums squares_of tab_from kind_of kind_by_mark combines_to some_combination some combined times bits Σℕ Σ factors_of size two total coef* divisor* denominator weight* numerator_of check_weight round rounds row_of degrees_of sum_at
four-figures = refl

-- 1 to 9 over 36: the totals are 45, -6, 0, -18, and 0 from there on; a main effect has 2 degrees and the interaction 4
three-figures : numbers (table_figures (plan 3 2 [] [] []) (pos 1 ∷ pos 2 ∷ pos 3 ∷ pos 4 ∷ pos 5 ∷ pos 6 ∷ pos 7 ∷ pos 8 ∷ pos 9 ∷ []) (0 ∷ 0 ∷ 0 ∷ 1 ∷ []))
    ≡ pos 36 ∷ pos 1 ∷ pos 8_100 ∷ pos 4 ∷ pos 2_160 ∷ pos 0 ∷ pos 0 ∷ pos 4 ∷ pos 0 ∷ pos 9 ∷ pos 10_260 ∷ pos 21 ∷ pos 21 ∷ []
unfolding table_figures source_of row_degrees row_left block_source block_degrees block_amount within_source joined total_source checks_of within_runs run_sums_in run_sums squares_of tab_from kind_of kind_by_mark combines_to some_combination some combined times bits Σℕ Σ factors_of size three total coef* divisor* denominator weight* numerator_of check_weight round rounds row_of degrees_of sum_at
three-figures = refl

-- readings 1 to 7 and 9, over 8: row ABC is blocks, and AB, AC and BC are pooled
block-figures : numbers (table_figures (plan 2 3 [] [] (ABC ∷ [])) (pos 1 ∷ pos 2 ∷ pos 3 ∷ pos 4 ∷ pos 5 ∷ pos 6 ∷ pos 7 ∷ pos 9 ∷ []) (0 ∷ 0 ∷ 0 ∷ 1 ∷ 0 ∷ 1 ∷ 1 ∷ 0 ∷ []))
    ≡ pos 8 ∷ pos 1 ∷ pos 1_369 ∷ pos 3 ∷ pos 395 ∷ pos 1 ∷ pos 1 ∷ pos 3 ∷ pos 3 ∷ pos 8 ∷ pos 1_768 ∷ pos 8 ∷ pos 8 ∷ []
unfolding table_figures source_of row_degrees row_left block_source block_degrees block_amount within_source joined total_source checks_of within_runs run_sums_in run_sums squares_of tab_from kind_of kind_by_mark combines_to some_combination some combined times bits Σℕ Σ factors_of size two total coef* divisor* denominator weight* numerator_of check_weight round rounds row_of degrees_of sum_at
block-figures = refl

-- V16, T30, T31: the run sums are 8 and 12, and readings differ from their run's mean by 1, 1, 2 and 2: over 4 that is 40, with 2 degrees, and
-- no row is marked
twice-figures : numbers (table_figures twice readings (0 ∷ 0 ∷ []))
    ≡ pos 4 ∷ pos 1 ∷ pos 400 ∷ pos 1 ∷ pos 16 ∷ pos 0 ∷ pos 0 ∷ pos 2 ∷ pos 40 ∷ pos 4 ∷ pos 456 ∷ pos 16 ∷ pos 16 ∷ []
unfolding table_figures source_of row_degrees row_left block_source block_degrees block_amount within_source joined total_source checks_of within_runs run_sums_in run_sums squares_of tab_from kind_of kind_by_mark combines_to some_combination some combined times bits Σℕ Σ factors_of size two total coef* divisor* denominator weight* numerator_of check_weight round rounds row_of degrees_of sum_at
twice-figures = refl

-- V17 to V19: two three-level factors, of which run (a, b) is in the block of a + b modulo 3
abbrev nine : Plan
nine = plan 3 2 [] [] (4 ∷ [])

abbrev nine_readings : List ℤ
nine_readings = pos 2 ∷ pos 5 ∷ pos 3 ∷ pos 1 ∷ pos 4 ∷ pos 6 ∷ pos 7 ∷ pos 8 ∷ pos 9 ∷ []

-- over 36; the block sums are 14, 15 and 16, so the amount is 12 (196 + 225 + 256) less 8,100, which is 24. Of row AB 216 is left, with 2
-- degrees: kept, and then error
amount-figures : numbers (table_figures nine nine_readings (0 ∷ 0 ∷ 0 ∷ 0 ∷ [])) ++ numbers (table_figures nine nine_readings (0 ∷ 0 ∷ 0 ∷ 1 ∷ []))
    ≡ (pos 36 ∷ pos 1 ∷ pos 8_100 ∷ pos 6 ∷ pos 2_136 ∷ pos 2 ∷ pos 24 ∷ pos 0 ∷ pos 0 ∷ pos 9 ∷ pos 10_260 ∷ pos 29 ∷ pos 29 ∷ [])
    ++ (pos 36 ∷ pos 1 ∷ pos 8_100 ∷ pos 4 ∷ pos 1_920 ∷ pos 2 ∷ pos 24 ∷ pos 2 ∷ pos 216 ∷ pos 9 ∷ pos 10_260 ∷ pos 29 ∷ pos 29 ∷ [])
unfolding table_figures source_of row_degrees row_left block_source block_degrees block_amount block_numerator digit_sum within_source joined total_source checks_of within_runs run_sums_in run_sums squares_of tab_from kind_of kind_by_mark combines_to some_combination some combined times bits Σℕ Σ factors_of size three total coef* divisor* denominator weight* numerator_of check_weight round rounds row_of degrees_of sum_at
amount-figures = refl

amount-rows : rows_of nine nine_readings ≡ 8_100 ∷ 456 ∷ 1_464 ∷ 216 ∷ []
unfolding rows_of row_left block_amount block_numerator digit_sum tab_from Σℕ Σ factors_of size three total coef* divisor* denominator weight* numerator_of row_of sum_at
amount-rows = refl

-- the readings of a run are those of the first example less 1 and plus 1: the run sums are twice as large, so numerators of rows and the
-- amount are 4 times as large over 72, and the squares within runs are 72 times 18, with 9 degrees
amount-twice : numbers (table_figures (made 2 nine)
    (pos 1 ∷ pos 3 ∷ pos 4 ∷ pos 6 ∷ pos 2 ∷ pos 4 ∷ pos 0 ∷ pos 2 ∷ pos 3 ∷ pos 5 ∷ pos 5 ∷ pos 7 ∷ pos 6 ∷ pos 8 ∷ pos 7 ∷ pos 9 ∷ pos 8 ∷ pos 10 ∷ [])
    (0 ∷ 0 ∷ 0 ∷ 1 ∷ []))
    ≡ pos 72 ∷ pos 1 ∷ pos 32_400 ∷ pos 4 ∷ pos 7_680 ∷ pos 2 ∷ pos 96 ∷ pos 11 ∷ pos 2_160 ∷ pos 18 ∷ pos 42_336 ∷ pos 58 ∷ pos 58 ∷ []
unfolding table_figures source_of row_degrees row_left block_source block_degrees block_amount block_numerator digit_sum within_source joined total_source checks_of within_runs run_sums_in run_sums squares_of tab_from kind_of kind_by_mark combines_to some_combination some combined times bits Σℕ Σ factors_of size three total coef* divisor* denominator weight* numerator_of check_weight round rounds row_of degrees_of sum_at
amount-twice = refl

abbrev no_marks : List ℕ
no_marks = 0 ∷ 0 ∷ 0 ∷ 0 ∷ []

-- N11: "k = 2, 3 readings", and so of marks, totals and rows
lengths : table_refused four (pos 3 ∷ pos 5 ∷ pos 4 ∷ []) no_marks readings no_marks
    ∷ table_refused four readings (0 ∷ 0 ∷ 0 ∷ []) readings no_marks
    ∷ table_refused four readings no_marks (pos 3 ∷ pos 5 ∷ pos 4 ∷ []) no_marks
    ∷ table_refused four readings no_marks readings (0 ∷ 0 ∷ 0 ∷ [])
    ∷ table_refused four readings no_marks readings no_marks
    ∷ []
    ≡ 11 ∷ 11 ∷ 11 ∷ 11 ∷ 0 ∷ []
unfolding table_refused wrong_lengths wrong_rows wrong_readings wrong_length any_beyond is_beyond bad_marks bad_mark with_plan plan_refused bad_levels bad_factors most_two most_three bad_counts bad_words bad_word bad_sign repeated dependent loses_factor factor_word bad_repeats is_repeats most_readings any among beyond letters combined times some_combination combines_to some bits Σℕ reading_limit two_reading_limit three_reading_limit factors_of size two
lengths = refl

-- N11, R10: two readings where runs are made twice, and four; N16: runs made three times
more-often : table_refused twice (pos 3 ∷ pos 5 ∷ []) (0 ∷ 0 ∷ []) (pos 0 ∷ pos 0 ∷ []) (0 ∷ 0 ∷ [])
    ∷ table_refused twice readings (0 ∷ 0 ∷ []) (pos 0 ∷ pos 0 ∷ []) (0 ∷ 0 ∷ [])
    ∷ table_refused twice readings (0 ∷ 0 ∷ []) readings (0 ∷ 0 ∷ [])
    ∷ table_refused (made 3 four) readings no_marks readings no_marks
    ∷ []
    ≡ 11 ∷ 0 ∷ 11 ∷ 16 ∷ []
unfolding table_refused wrong_lengths wrong_rows wrong_readings wrong_length any_beyond is_beyond bad_marks bad_mark with_plan plan_refused bad_levels bad_factors most_two most_three bad_counts bad_words bad_word bad_sign repeated dependent loses_factor factor_word bad_repeats is_repeats most_readings any among beyond letters combined times some_combination combines_to some bits Σℕ reading_limit two_reading_limit three_reading_limit factors_of size two
more-often = refl

-- N12: "its small input is now a three-level one", a reading of 100,001, and as much below 0; two levels admit it
-- N13: "mark 1 on row 0", a mark of 2, mark 1 on BCD, which AD and ABC combine to
-- L1: then 11 and 12, 12 and 13, and 2 and all of these
abbrev three-runs : Plan
three-runs = plan 3 1 [] [] []

abbrev large : List ℤ
large = pos 2 ∷ pos 100_001 ∷ pos 3 ∷ []

abbrev low : List ℤ
low = pos 2 ∷ pos 5 ∷ neg 100_001 ∷ []

abbrev three-zeros : List ℤ
three-zeros = pos 0 ∷ pos 0 ∷ pos 0 ∷ []

abbrev sixteen : List ℤ
sixteen = pos 0 ∷ pos 0 ∷ pos 0 ∷ pos 0 ∷ pos 0 ∷ pos 0 ∷ pos 0 ∷ pos 0 ∷ pos 0 ∷ pos 0 ∷ pos 0 ∷ pos 0 ∷ pos 0 ∷ pos 0 ∷ pos 0 ∷ pos 0 ∷ []

abbrev on_bcd : List ℕ
on_bcd = 0 ∷ 0 ∷ 0 ∷ 0 ∷ 0 ∷ 0 ∷ 0 ∷ 0 ∷ 0 ∷ 0 ∷ 0 ∷ 0 ∷ 0 ∷ 0 ∷ 1 ∷ 0 ∷ []

small-inputs : table_refused three-runs large (0 ∷ 0 ∷ []) three-zeros (0 ∷ 0 ∷ [])
    ∷ table_refused three-runs low (0 ∷ 0 ∷ []) three-zeros (0 ∷ 0 ∷ [])
    ∷ table_refused four (pos 3 ∷ pos 5 ∷ pos 100_001 ∷ neg 100_001 ∷ []) no_marks readings no_marks
    ∷ table_refused four readings (1 ∷ 0 ∷ 0 ∷ 0 ∷ []) readings no_marks
    ∷ table_refused four readings (0 ∷ 0 ∷ 2 ∷ 0 ∷ []) readings no_marks
    ∷ table_refused (plan 2 4 [] [] (AD ∷ ABC ∷ [])) sixteen on_bcd sixteen on_bcd
    ∷ table_refused three-runs large (0 ∷ 0 ∷ []) three-zeros []
    ∷ table_refused three-runs large (1 ∷ 0 ∷ []) three-zeros (0 ∷ 0 ∷ [])
    ∷ table_refused (plan 4 2 [] [] []) large (1 ∷ []) three-zeros []
    ∷ []
    ≡ 12 ∷ 12 ∷ 0 ∷ 13 ∷ 13 ∷ 13 ∷ 11 ∷ 12 ∷ 2 ∷ []
unfolding table_refused wrong_lengths wrong_rows wrong_readings wrong_length any_beyond is_beyond bad_marks bad_mark with_plan plan_refused bad_levels bad_factors most_two most_three bad_counts bad_words bad_word bad_sign repeated dependent loses_factor factor_word bad_repeats is_repeats most_readings any among beyond letters combined times some_combination combines_to some bits Σℕ reading_limit two_reading_limit three_reading_limit factors_of size two three
small-inputs = refl

-- N13, V19: the row of the letters used "may be marked as error", but not row 0, and a mark is 0 or 1
amount-marks : table_refused nine nine_readings (0 ∷ 0 ∷ 0 ∷ 1 ∷ []) nine_readings no_marks
    ∷ table_refused nine nine_readings (0 ∷ 0 ∷ 0 ∷ 2 ∷ []) nine_readings no_marks
    ∷ table_refused nine nine_readings (1 ∷ 0 ∷ 0 ∷ 0 ∷ []) nine_readings no_marks
    ∷ []
    ≡ 0 ∷ 13 ∷ 13 ∷ []
unfolding table_refused wrong_lengths wrong_rows wrong_readings wrong_length any_beyond is_beyond bad_marks bad_mark with_plan plan_refused bad_levels bad_factors most_two most_three bad_counts bad_words bad_word bad_sign bad_digits used_digits lowest_digit repeated dependent loses_factor factor_word bad_repeats is_repeats most_readings any among beyond letters combined times some_combination combines_to some bits Σℕ reading_limit two_reading_limit three_reading_limit factors_of size three
amount-marks = refl

-- L2
unchanged : (table_totals four readings (1 ∷ 0 ∷ 0 ∷ 0 ∷ []) readings no_marks ≡ readings) × (table_rows four readings (1 ∷ 0 ∷ 0 ∷ 0 ∷ []) readings no_marks ≡ no_marks)
unfolding table_totals table_rows table_refused wrong_lengths wrong_rows wrong_readings wrong_length any_beyond is_beyond bad_marks bad_mark with_plan plan_refused bad_levels bad_factors most_two most_three bad_counts bad_words bad_word bad_sign repeated dependent loses_factor factor_word bad_repeats is_repeats most_readings any among beyond letters combined times some_combination combines_to some bits Σℕ reading_limit two_reading_limit three_reading_limit factors_of size two
unchanged = (refl, refl)
