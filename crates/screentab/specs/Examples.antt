-- Texts of sheets, computed from their bytes.
--
--   whole-text        the rules' example, which has no added factor: the text of the printing call
--   half-text         eight runs of four factors, D = ABC, with AB, AC and BC pooled: the same
--   refused-texts     C = AB; three levels; a main effect marked, a base factor's and that of D = ABC
--   printed-first     what the printing call refuses has its number, also where two effects meet
use Rattle.std.specs.Prelude.{◌≡◌, refl, List, [], ◌∷◌, ◌++◌, map, ℕ}
use Rattle.algebra.specs.Bits.{bits}
use Rattle.algebra.specs.Naturals.{Σℕ}
use Rattle.algebra.specs.Search.{some}
use Rattle.algebra.specs.Sorted.{sum_at}
use Rattle.algebra.specs.Sum.{Σ}
use Rattle.algebra.specs.Tab.{tab_from}
use Rattle.contrasts.specs.Limits.{two_reading_limit, three_reading_limit, most_two, most_three, is_repeats, most_readings}
use Rattle.contrasts.specs.Rows.{row_of, degrees_of}
use Rattle.contrasts.proofs.Factors.{two, three}
use Rattle.contrasts.specs.Totals.{size, coef*, total, divisor*, denominator, weight*, numerator_of}
use Rattle.contrasts.specs.Checks.{check_weight, round, rounds}
use Rattle.contrasts.specs.Columns.{run_sums_in, squares_of}
use Rattle.contrasts.specs.Repeats.{run_sums, within_runs}
use Rattle.words.specs.Words.{letters, beyond, times, combined, any, among, repeated}
use Rattle.plan.specs.Check.{bad_levels, bad_factors, bad_counts, bad_word, bad_sign, bad_digits, used_digits, lowest_digit, bad_words, dependent, factor_word, loses_factor, plan_refused, with_plan, bad_repeats}
use Rattle.plan.specs.Limits.{reading_limit, is_beyond}
use Rattle.plan.specs.Plan.{factors_of, some_combination, combines_to}
use Rattle.aliases.specs.Alias.{base_word}
use Rattle.columns.specs.Refusals.{wrong_length, wrong_readings, any_beyond}
use Rattle.rows.specs.Kinds.{wrong_rows, kind_by_mark, kind_of, bad_mark, bad_marks}
use Rattle.numerals.specs.Numbers.{big, twos}
use Rattle.fields.specs.Fields.{parse, fields_of, bodies, body_at}
use Rattle.fields.specs.Tags.{bad_from, bad_fields}
use Rattle.contents.specs.Contents.{plan_in, reading_at, readings_of, needless}
use Rattle.sheet.specs.Sheet.{refused_with, marks_refused}
use Rattle.text.specs.Text.{ascii}
use Rattle.text.specs.Spelled.{letter_of, letters_in, decimal_in}
use Rattle.lines.specs.Lines.{line_of, label_of, kind_words, row_line, named_line, source_line, check_line}
use Rattle.anova.specs.Table.{wrong_lengths, block_degrees, block_amount, block_source, row_degrees, row_left, source_of, total_source, checks_of, table_figures, rows_of, joined, within_source}
use Rattle.screening.specs.Screening.{meet, marked_main, screen_refused}
use Rattle.printing.specs.Printed.{row_lines, table_text, printed, sheet_table, print_refused}
use Rattle.printing.specs.Examples.{rules_sheet, three_sheet}
use Rattle.screentab.specs.Screened.{screen_number, screened_refused, screened_text}

-- V23; W4
whole-text : screened_text rules_sheet ≡ ascii "over 4\nmean 1 400\nA 1 36\nB 1 16\nAB 1 4 error\nblocks 0 0\nerror 1 4\ntotal 4 456\ncheck 12 12\n"
unfolding screened_text screened_refused screen_number screen_refused meet marked_main base_word wrong_lengths wrong_length printed print_refused sheet_table table_text row_lines row_line named_line source_line check_line line_of label_of kind_words letters_in letter_of decimal_in table_figures source_of block_source block_degrees block_amount row_degrees row_left total_source checks_of rows_of kind_of kind_by_mark marks_refused refused_with plan_in readings_of reading_at twos big fields_of parse bodies body_at bad_fields bad_from wrong_rows any_beyond is_beyond bad_marks bad_mark with_plan plan_refused bad_levels bad_factors most_two most_three bad_counts bad_words bad_word bad_sign bad_digits used_digits lowest_digit repeated dependent loses_factor factor_word any among beyond letters combined times some_combination combines_to some bits Σℕ Σ reading_limit two_reading_limit three_reading_limit factors_of size two three tab_from total coef* divisor* denominator weight* numerator_of check_weight round rounds row_of degrees_of sum_at bad_repeats is_repeats most_readings within_source joined within_runs run_sums run_sums_in squares_of needless wrong_readings
whole-text = refl

-- k = 3, D = ABC, readings 1 to 8, with these marks
abbrev half : List ℕ → List ℕ
half marks =
    (1 ∷ 0 ∷ 2 ∷ 2 ∷ 3 ∷ 2 ∷ 0 ∷ 3 ∷ 0 ∷ 7 ∷ 0
    ∷ 4 ∷ 0 ∷ 32 ∷ 0 ∷ 0 ∷ 0 ∷ 1 ∷ 0 ∷ 0 ∷ 0 ∷ 2 ∷ 0 ∷ 0 ∷ 0 ∷ 3 ∷ 0 ∷ 0 ∷ 0 ∷ 4 ∷ 0 ∷ 0 ∷ 0 ∷ 5 ∷ 0 ∷ 0 ∷ 0 ∷ 6 ∷ 0 ∷ 0 ∷ 0 ∷ 7 ∷ 0 ∷ 0 ∷ 0 ∷ 8
    ∷ 5 ∷ 0 ∷ 8 ∷ [])
    ++ marks

-- V21 to V23: AD is BC, and no main effect is an interaction of two factors
half-text : screened_text (half (0 ∷ 0 ∷ 0 ∷ 1 ∷ 0 ∷ 1 ∷ 1 ∷ 0 ∷ []))
    ≡ ascii "over 8\nmean 1 1296\nA 1 16\nB 1 64\nAB 1 0 error\nC 1 256\nAC 1 0 error\nBC 1 0 error\nABC 1 0\nblocks 0 0\nerror 3 0\ntotal 8 1632\ncheck 8 8\n"
unfolding screened_text screened_refused screen_number screen_refused meet marked_main base_word wrong_lengths wrong_length printed print_refused sheet_table table_text row_lines row_line named_line source_line check_line line_of label_of kind_words letters_in letter_of decimal_in table_figures source_of block_source block_degrees block_amount row_degrees row_left total_source checks_of rows_of kind_of kind_by_mark marks_refused refused_with plan_in readings_of reading_at twos big fields_of parse bodies body_at bad_fields bad_from wrong_rows any_beyond is_beyond bad_marks bad_mark with_plan plan_refused bad_levels bad_factors most_two most_three bad_counts bad_words bad_word bad_sign bad_digits used_digits lowest_digit repeated dependent loses_factor factor_word any among beyond letters combined times some_combination combines_to some bits Σℕ Σ reading_limit two_reading_limit three_reading_limit factors_of size two three tab_from total coef* divisor* denominator weight* numerator_of check_weight round rounds row_of degrees_of sum_at bad_repeats is_repeats most_readings within_source joined within_runs run_sums run_sums_in squares_of needless wrong_readings
half-text = refl

-- k = 2, C = AB, readings 3, 5, 4 and one more, with these marks
abbrev met : List ℕ → List ℕ → List ℕ
met last marks =
    (1 ∷ 0 ∷ 2 ∷ 2 ∷ 2 ∷ 2 ∷ 0 ∷ 3 ∷ 0 ∷ 3 ∷ 0 ∷ 4 ∷ 0 ∷ 16 ∷ 0 ∷ 0 ∷ 0 ∷ 3 ∷ 0 ∷ 0 ∷ 0 ∷ 5 ∷ 0 ∷ 0 ∷ 0 ∷ 4 ∷ [])
    ++ (last ++ ((5 ∷ 0 ∷ 4 ∷ []) ++ marks))

abbrev eight : List ℕ
eight = 0 ∷ 0 ∷ 0 ∷ 8 ∷ []

abbrev none : List ℕ
none = 0 ∷ 0 ∷ 0 ∷ 0 ∷ []

-- N21, N9, N13
refused-texts : map screened_text
    (met eight none
    ∷ three_sheet
    ∷ half (0 ∷ 0 ∷ 1 ∷ 0 ∷ 0 ∷ 0 ∷ 0 ∷ 0 ∷ [])
    ∷ half (0 ∷ 0 ∷ 0 ∷ 0 ∷ 0 ∷ 0 ∷ 0 ∷ 1 ∷ [])
    ∷ [])
    ≡ ascii "refused 21\n" ∷ ascii "refused 9\n" ∷ ascii "refused 13\n" ∷ ascii "refused 13\n" ∷ []
unfolding screened_text screened_refused screen_number screen_refused meet marked_main base_word wrong_lengths wrong_length printed print_refused named_line line_of decimal_in marks_refused refused_with plan_in readings_of reading_at twos big fields_of parse bodies body_at bad_fields bad_from wrong_rows any_beyond is_beyond bad_marks bad_mark with_plan plan_refused bad_levels bad_factors most_two most_three bad_counts bad_words bad_word bad_sign bad_digits used_digits lowest_digit repeated dependent loses_factor factor_word any among beyond letters combined times some_combination combines_to some bits Σℕ reading_limit two_reading_limit three_reading_limit factors_of size two three tab_from bad_repeats is_repeats most_readings needless wrong_readings
refused-texts = refl

-- N1, N12, N13: no byte; a reading of 1,000,001; mark 1 on the mean
printed-first : map screened_refused ([] ∷ met (0 ∷ 15 ∷ 66 ∷ 65 ∷ []) none ∷ met eight (1 ∷ 0 ∷ 0 ∷ 0 ∷ []) ∷ []) ≡ 1 ∷ 12 ∷ 13 ∷ []
unfolding screened_refused screen_number screen_refused meet marked_main base_word wrong_lengths wrong_length print_refused marks_refused refused_with plan_in readings_of reading_at twos big fields_of parse bodies body_at bad_fields bad_from wrong_rows any_beyond is_beyond bad_marks bad_mark with_plan plan_refused bad_levels bad_factors most_two most_three bad_counts bad_words bad_word bad_sign bad_digits used_digits lowest_digit repeated dependent loses_factor factor_word any among beyond letters combined times some_combination combines_to some bits Σℕ reading_limit two_reading_limit three_reading_limit factors_of size two three tab_from bad_repeats is_repeats most_readings needless wrong_readings
printed-first = refl
