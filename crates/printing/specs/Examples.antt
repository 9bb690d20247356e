-- Texts of sheets, computed from their bytes.
--
--   rules_sheet, rules-text   the rules' example: readings 3, 5, 4, 8 with marks 0, 0, 0, 1
--   three_sheet, three-text   three levels, 2, 5, 3: row A has 28, with 2 degrees
--   twice-text                one factor, each run made twice: readings 3, 5 and 4, 8
--   blocked-text              k = 2, block word AB: readings -1, -2, 3, 4 and B pooled
--   three-blocks-text         three levels, k = 2, block word AB, with AB pooled: its row has no `blocks`, and the block amount stands in the blocks line
--   refused-texts             an empty sheet, one with levels 4, and one with a mark on the mean
use Rattle.std.specs.Prelude.{◌≡◌, refl, List, [], ◌∷◌, map, ℕ}
use Rattle.algebra.specs.Bits.{bits}
use Rattle.algebra.specs.Naturals.{Σℕ}
use Rattle.algebra.specs.Search.{some}
use Rattle.algebra.specs.Sorted.{sum_at}
use Rattle.algebra.specs.Sum.{Σ}
use Rattle.algebra.specs.Tab.{tab_from}
use Rattle.contrasts.specs.Blocks.{digit_sum, block_numerator}
use Rattle.contrasts.specs.Limits.{two_reading_limit, three_reading_limit, most_two, most_three, is_repeats, most_readings}
use Rattle.contrasts.specs.Rows.{row_of, degrees_of}
use Rattle.contrasts.proofs.Factors.{two, three}
use Rattle.contrasts.specs.Totals.{size, coef*, total, divisor*, denominator, weight*, numerator_of}
use Rattle.contrasts.specs.Checks.{check_weight, round, rounds}
use Rattle.words.specs.Words.{letters, beyond, times, combined, any, among, repeated}
use Rattle.plan.specs.Check.{bad_levels, bad_factors, bad_counts, bad_word, bad_sign, bad_digits, used_digits, lowest_digit, bad_words, dependent, factor_word, loses_factor, plan_refused, with_plan, bad_repeats}
use Rattle.plan.specs.Limits.{reading_limit, is_beyond}
use Rattle.plan.specs.Plan.{factors_of, some_combination, combines_to}
use Rattle.columns.specs.Refusals.{any_beyond, wrong_readings}
use Rattle.rows.specs.Kinds.{wrong_rows, kind_by_mark, kind_of, bad_mark, bad_marks}
use Rattle.numerals.specs.Numbers.{big, twos}
use Rattle.fields.specs.Fields.{parse, fields_of, bodies, body_at}
use Rattle.fields.specs.Tags.{bad_from, bad_fields}
use Rattle.contents.specs.Contents.{plan_in, reading_at, readings_of, needless}
use Rattle.sheet.specs.Examples.{twice, in_blocks}
use Rattle.sheet.specs.Sheet.{refused_with, marks_refused}
use Rattle.text.specs.Text.{ascii}
use Rattle.text.specs.Spelled.{letter_of, letters_in, decimal_in}
use Rattle.lines.specs.Lines.{line_of, label_of, kind_words, row_line, named_line, source_line, check_line}
use Rattle.anova.specs.Table.{block_degrees, block_amount, block_source, row_degrees, row_left, source_of, total_source, checks_of, table_figures, rows_of, joined, within_source}
use Rattle.contrasts.specs.Columns.{run_sums_in, squares_of}
use Rattle.contrasts.specs.Repeats.{run_sums, within_runs}
use Rattle.printing.specs.Printed.{row_lines, table_text, printed, sheet_table, print_refused, text_of}

abbrev pub rules_sheet : List ℕ
rules_sheet =
    1 ∷ 0 ∷ 2 ∷ 2 ∷ 2
    ∷ 4 ∷ 0 ∷ 16 ∷ 0 ∷ 0 ∷ 0 ∷ 3 ∷ 0 ∷ 0 ∷ 0 ∷ 5 ∷ 0 ∷ 0 ∷ 0 ∷ 4 ∷ 0 ∷ 0 ∷ 0 ∷ 8
    ∷ 5 ∷ 0 ∷ 4 ∷ 0 ∷ 0 ∷ 0 ∷ 1 ∷ []

-- W4
pub rules-text : text_of rules_sheet ≡ ascii "over 4\nmean 1 400\nA 1 36\nB 1 16\nAB 1 4 error\nblocks 0 0\nerror 1 4\ntotal 4 456\ncheck 12 12\n"
unfolding text_of printed print_refused sheet_table table_text row_lines row_line named_line source_line check_line line_of label_of kind_words letters_in letter_of decimal_in table_figures source_of block_source block_degrees block_amount row_degrees row_left total_source checks_of rows_of kind_of kind_by_mark marks_refused refused_with plan_in readings_of reading_at twos big fields_of parse bodies body_at bad_fields bad_from wrong_rows any_beyond is_beyond bad_marks bad_mark with_plan plan_refused bad_levels bad_factors most_two most_three bad_counts bad_words bad_word bad_sign bad_digits used_digits lowest_digit repeated dependent loses_factor factor_word any among beyond letters combined times some_combination combines_to some bits Σℕ Σ reading_limit two_reading_limit three_reading_limit factors_of size two three tab_from total coef* divisor* denominator weight* numerator_of check_weight round rounds row_of degrees_of sum_at bad_repeats is_repeats most_readings within_source joined within_runs run_sums run_sums_in squares_of needless wrong_readings
rules-text = refl

abbrev pub three_sheet : List ℕ
three_sheet = 1 ∷ 0 ∷ 2 ∷ 3 ∷ 1 ∷ 4 ∷ 0 ∷ 12 ∷ 0 ∷ 0 ∷ 0 ∷ 2 ∷ 0 ∷ 0 ∷ 0 ∷ 5 ∷ 0 ∷ 0 ∷ 0 ∷ 3 ∷ 5 ∷ 0 ∷ 2 ∷ 0 ∷ 0 ∷ []

-- X2
pub three-text : text_of three_sheet ≡ ascii "over 6\nmean 1 200\nA 2 28\nblocks 0 0\nerror 0 0\ntotal 3 228\ncheck 4 4\n"
unfolding text_of printed print_refused sheet_table table_text row_lines row_line named_line source_line check_line line_of label_of kind_words letters_in letter_of decimal_in table_figures source_of block_source block_degrees block_amount row_degrees row_left total_source checks_of rows_of kind_of kind_by_mark marks_refused refused_with plan_in readings_of reading_at twos big fields_of parse bodies body_at bad_fields bad_from wrong_rows any_beyond is_beyond bad_marks bad_mark with_plan plan_refused bad_levels bad_factors most_two most_three bad_counts bad_words bad_word bad_sign bad_digits used_digits lowest_digit repeated dependent loses_factor factor_word any among beyond letters combined times some_combination combines_to some bits Σℕ Σ reading_limit two_reading_limit three_reading_limit factors_of size two three tab_from total coef* divisor* denominator weight* numerator_of check_weight round rounds row_of degrees_of sum_at bad_repeats is_repeats most_readings within_source joined within_runs run_sums run_sums_in squares_of needless wrong_readings
three-text = refl

-- T29, T30, V16: k = 1, each run made twice: 3, 5 and 4, 8 have the sums 8 and 12
pub twice-text : text_of twice ≡ ascii "over 4\nmean 1 400\nA 1 16\nblocks 0 0\nerror 2 40\ntotal 4 456\ncheck 16 16\n"
unfolding text_of printed print_refused sheet_table table_text row_lines row_line named_line source_line check_line line_of label_of kind_words letters_in letter_of decimal_in table_figures source_of block_source block_degrees block_amount row_degrees row_left total_source checks_of rows_of kind_of kind_by_mark marks_refused refused_with plan_in readings_of reading_at twos big fields_of parse bodies body_at bad_fields bad_from wrong_rows any_beyond is_beyond bad_marks bad_mark with_plan plan_refused bad_levels bad_factors most_two most_three bad_counts bad_words bad_word bad_sign bad_digits used_digits lowest_digit repeated dependent loses_factor factor_word any among beyond letters combined times some_combination combines_to some bits Σℕ Σ reading_limit two_reading_limit three_reading_limit factors_of size two three tab_from total coef* divisor* denominator weight* numerator_of check_weight round rounds row_of degrees_of sum_at bad_repeats is_repeats most_readings within_source joined within_runs run_sums run_sums_in squares_of needless wrong_readings
twice-text = refl

abbrev blocked : List ℕ
blocked =
    1 ∷ 0 ∷ 2 ∷ 2 ∷ 2 ∷ 3 ∷ 0 ∷ 2 ∷ 0 ∷ 3
    ∷ 4 ∷ 0 ∷ 16 ∷ 255 ∷ 255 ∷ 255 ∷ 255 ∷ 255 ∷ 255 ∷ 255 ∷ 254 ∷ 0 ∷ 0 ∷ 0 ∷ 3 ∷ 0 ∷ 0 ∷ 0 ∷ 4
    ∷ 5 ∷ 0 ∷ 4 ∷ 0 ∷ 0 ∷ 1 ∷ 0 ∷ []

blocked-text : text_of blocked ≡ ascii "over 4\nmean 1 16\nA 1 0\nB 1 100 error\nAB 1 4 blocks\nblocks 1 4\nerror 1 100\ntotal 4 120\ncheck -4 -4\n"
unfolding text_of printed print_refused sheet_table table_text row_lines row_line named_line source_line check_line line_of label_of kind_words letters_in letter_of decimal_in table_figures source_of block_source block_degrees block_amount row_degrees row_left total_source checks_of rows_of kind_of kind_by_mark marks_refused refused_with plan_in readings_of reading_at twos big fields_of parse bodies body_at bad_fields bad_from wrong_rows any_beyond is_beyond bad_marks bad_mark with_plan plan_refused bad_levels bad_factors most_two most_three bad_counts bad_words bad_word bad_sign bad_digits used_digits lowest_digit repeated dependent loses_factor factor_word any among beyond letters combined times some_combination combines_to some bits Σℕ Σ reading_limit two_reading_limit three_reading_limit factors_of size two three tab_from total coef* divisor* denominator weight* numerator_of check_weight round rounds row_of degrees_of sum_at bad_repeats is_repeats most_readings within_source joined within_runs run_sums run_sums_in squares_of needless wrong_readings
blocked-text = refl

-- V17 to V19: the sheet of `sheet`
three-blocks-text : text_of in_blocks ≡ ascii "over 36\nmean 1 8100\nA 2 456\nB 2 1464\nAB 2 216 error\nblocks 2 24\nerror 2 216\ntotal 9 10260\ncheck 29 29\n"
unfolding text_of printed print_refused sheet_table table_text row_lines row_line named_line source_line check_line line_of label_of kind_words letters_in letter_of decimal_in table_figures source_of block_source block_degrees block_amount row_degrees row_left total_source checks_of rows_of kind_of kind_by_mark marks_refused refused_with plan_in readings_of reading_at twos big fields_of parse bodies body_at bad_fields bad_from wrong_rows any_beyond is_beyond bad_marks bad_mark with_plan plan_refused bad_levels bad_factors most_two most_three bad_counts bad_words bad_word bad_sign bad_digits used_digits lowest_digit repeated dependent loses_factor factor_word any among beyond letters combined times some_combination combines_to some bits Σℕ Σ reading_limit two_reading_limit three_reading_limit factors_of size two three tab_from total coef* divisor* denominator weight* numerator_of check_weight round rounds row_of degrees_of sum_at bad_repeats is_repeats most_readings within_source joined within_runs run_sums run_sums_in squares_of needless wrong_readings block_numerator digit_sum
three-blocks-text = refl

-- W3, N1, N2, N13
refused-texts : map text_of ([] ∷ (1 ∷ 0 ∷ 2 ∷ 4 ∷ 1 ∷ 4 ∷ 0 ∷ 0 ∷ 5 ∷ 0 ∷ 0 ∷ []) ∷ (1 ∷ 0 ∷ 2 ∷ 2 ∷ 1 ∷ 4 ∷ 0 ∷ 8 ∷ 0 ∷ 0 ∷ 0 ∷ 1 ∷ 0 ∷ 0 ∷ 0 ∷ 1 ∷ 5 ∷ 0 ∷ 2 ∷ 1 ∷ 0 ∷ []) ∷ [])
    ≡ ascii "refused 1\n" ∷ ascii "refused 2\n" ∷ ascii "refused 13\n" ∷ []
unfolding text_of printed print_refused sheet_table table_text row_lines row_line named_line source_line check_line line_of label_of kind_words letters_in letter_of decimal_in table_figures source_of block_source block_degrees block_amount row_degrees row_left total_source checks_of rows_of kind_of kind_by_mark marks_refused refused_with plan_in readings_of reading_at twos big fields_of parse bodies body_at bad_fields bad_from wrong_rows any_beyond is_beyond bad_marks bad_mark with_plan plan_refused bad_levels bad_factors most_two most_three bad_counts bad_words bad_word bad_sign bad_digits used_digits lowest_digit repeated dependent loses_factor factor_word any among beyond letters combined times some_combination combines_to some bits Σℕ Σ reading_limit two_reading_limit three_reading_limit factors_of size two three tab_from total coef* divisor* denominator weight* numerator_of check_weight round rounds row_of degrees_of sum_at bad_repeats is_repeats most_readings within_source joined within_runs run_sums run_sums_in squares_of needless wrong_readings
refused-texts = refl
