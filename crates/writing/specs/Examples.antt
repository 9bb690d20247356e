-- Sheets, computed over the definitions of the reader, the marks call and the writer.
--
--   sample          the sheet of the rules' run: readings 3, 5, 4, 8 and marks 0, 0, 0, 1, byte by byte
--   sample-written, sample-plan, sample-column, sample-marks    it is written so, and what both calls give of it
--   narrow          a column that is too short for it
--   twice-written   the sheet of runs that are made twice
--   blocks-written  the sheet of a three-level plan with a block word
--   largest-back    the largest such word is read back
--   refused_sheets, small-inputs   the small input of each refusal that a sheet can show
--   no-marks        the marks call gives an empty part of each of these
use Rattle.std.specs.Prelude.{◌≡◌, refl, List, [], ◌∷◌, map, ℕ, ℤ, pos, replicate}
use Rattle.algebra.specs.Bits.{bits}
use Rattle.algebra.specs.Naturals.{Σℕ}
use Rattle.algebra.specs.Search.{some}
use Rattle.algebra.specs.Tab.{tab_from}
use Rattle.contrasts.specs.Limits.{two_reading_limit, three_reading_limit, most_two, most_three, is_repeats, most_readings}
use Rattle.contrasts.proofs.Factors.{two, three}
use Rattle.contrasts.specs.Totals.{size}
use Rattle.words.specs.Words.{letters, beyond, times, combined, any, among, repeated}
use Rattle.plan.specs.Check.{bad_levels, bad_factors, bad_counts, bad_word, bad_sign, bad_digits, used_digits, lowest_digit, bad_words, dependent, factor_word, loses_factor, bad_repeats, plan_refused, with_plan}
use Rattle.plan.specs.Limits.{reading_limit, is_beyond}
use Rattle.plan.specs.Examples.{AB, ABC, C, plan, made}
use Rattle.plan.specs.Plan.{factors_of, some_combination, combines_to}
use Rattle.columns.specs.Refusals.{wrong_readings, any_beyond}
use Rattle.rows.specs.Kinds.{wrong_rows, bad_mark, bad_marks}
use Rattle.numerals.specs.Numbers.{big, twos}
use Rattle.fields.specs.Fields.{parse, fields_of, bodies, body_at}
use Rattle.fields.specs.Tags.{bad_from, bad_fields}
use Rattle.contents.specs.Contents.{needless, plan_in, reading_at, readings_of}
use Rattle.sheet.specs.Examples.{twice, nine, in_blocks}
use Rattle.sheet.specs.Sheet.{refused_with, read_refused, no_plan, read_plan, read_column, marks_refused, marks_of}
use Rattle.writing.specs.Writer.{bytes, bytes_of, each, reading_bytes, sheet_fields, sheet_of}

abbrev four : List ℤ
four = pos 3 ∷ pos 5 ∷ pos 4 ∷ pos 8 ∷ []

-- W4
abbrev sample : List ℕ
sample =
    1 ∷ 0 ∷ 2 ∷ 2 ∷ 2
    ∷ 4 ∷ 0 ∷ 16 ∷ 0 ∷ 0 ∷ 0 ∷ 3 ∷ 0 ∷ 0 ∷ 0 ∷ 5 ∷ 0 ∷ 0 ∷ 0 ∷ 4 ∷ 0 ∷ 0 ∷ 0 ∷ 8
    ∷ 5 ∷ 0 ∷ 4 ∷ 0 ∷ 0 ∷ 0 ∷ 1 ∷ []

sample-written : sheet_of (plan 2 2 [] [] []) four (0 ∷ 0 ∷ 0 ∷ 1 ∷ []) ≡ sample
unfolding sheet_of sheet_fields bytes_of each reading_bytes bytes
sample-written = refl

-- S9 to S12: the plan; the first four of six places; the marks
sample-plan : read_plan sample 6 ≡ plan 2 2 [] [] []
unfolding read_plan read_refused refused_with needless plan_in readings_of reading_at twos big fields_of parse bodies body_at bad_fields bad_from wrong_readings wrong_rows any_beyond is_beyond bad_marks bad_mark with_plan plan_refused bad_levels bad_factors most_two most_three bad_counts bad_words bad_word bad_sign repeated dependent loses_factor factor_word bad_repeats is_repeats most_readings any among beyond letters combined times some_combination combines_to some bits Σℕ reading_limit two_reading_limit three_reading_limit factors_of size two three tab_from
sample-plan = refl

sample-column : read_column sample (replicate 6 (pos 9)) ≡ pos 3 ∷ pos 5 ∷ pos 4 ∷ pos 8 ∷ pos 9 ∷ pos 9 ∷ []
unfolding read_column read_refused refused_with needless plan_in readings_of reading_at twos big fields_of parse bodies body_at bad_fields bad_from wrong_readings wrong_rows any_beyond is_beyond bad_marks bad_mark with_plan plan_refused bad_levels bad_factors most_two most_three bad_counts bad_words bad_word bad_sign repeated dependent loses_factor factor_word bad_repeats is_repeats most_readings any among beyond letters combined times some_combination combines_to some bits Σℕ reading_limit two_reading_limit three_reading_limit factors_of size two three tab_from
sample-column = refl

sample-marks : marks_of sample ≡ 0 ∷ 0 ∷ 0 ∷ 1 ∷ []
unfolding marks_of marks_refused refused_with needless plan_in readings_of reading_at twos big fields_of parse bodies body_at bad_fields bad_from wrong_readings wrong_rows any_beyond is_beyond bad_marks bad_mark with_plan plan_refused bad_levels bad_factors most_two most_three bad_counts bad_words bad_word bad_sign repeated dependent loses_factor factor_word bad_repeats is_repeats most_readings any among beyond letters combined times some_combination combines_to some bits Σℕ reading_limit two_reading_limit three_reading_limit factors_of size two three tab_from
sample-marks = refl

-- N11, L2: a column of three places: nothing is written, and the plan is all zeros
narrow : (read_refused sample 3 ≡ 11) × (read_plan sample 3 ≡ no_plan) × (read_column sample (replicate 3 (pos 9)) ≡ replicate 3 (pos 9))
unfolding read_plan read_column read_refused refused_with needless plan_in readings_of reading_at twos big fields_of parse bodies body_at bad_fields bad_from wrong_readings wrong_rows any_beyond is_beyond bad_marks bad_mark with_plan plan_refused bad_levels bad_factors most_two most_three bad_counts bad_words bad_word bad_sign repeated dependent loses_factor factor_word bad_repeats is_repeats most_readings any among beyond letters combined times some_combination combines_to some bits Σℕ reading_limit two_reading_limit three_reading_limit factors_of size two three tab_from
narrow = (refl, refl, refl)

-- S14: tag 6 is written where runs are not made once
twice-written : sheet_of (made 2 (plan 2 1 [] [] [])) four (0 ∷ 0 ∷ []) ≡ twice
unfolding sheet_of sheet_fields bytes_of each reading_bytes bytes
twice-written = refl

-- P14, S6: tag 3 holds the number as it holds a set of letters; the row of the letters used is marked (V19). What both calls give of this sheet
-- stands beside `in_blocks`.
blocks-written : sheet_of (plan 3 2 [] [] (4 ∷ [])) (map pos nine) (0 ∷ 0 ∷ 0 ∷ 1 ∷ []) ≡ in_blocks
unfolding sheet_of sheet_fields bytes_of each reading_bytes bytes
blocks-written = refl

-- P15: the largest number of six digits that keeps the digit rule, AB2C2D2E2F2, takes both bytes
largest-back : plan_in (sheet_fields (plan 3 6 [] [] (727 ∷ [])) [] []) ≡ plan 3 6 [] [] (727 ∷ [])
unfolding sheet_fields each bytes plan_in big bodies body_at tab_from
largest-back = refl

-- N1 to N8, N11 to N13: the small inputs; seven added factors; N16: runs made three times; S15: N readings of runs made twice
-- P15, N5: at three levels a word whose lowest digit is 2; N13: mark 2 on the row of the word's letters
abbrev refused_sheets : List (List ℕ)
refused_sheets =
    []
    ∷ sheet_of (plan 4 1 [] [] []) four (0 ∷ 0 ∷ [])
    ∷ sheet_of (plan 3 7 [] [] []) four (0 ∷ 0 ∷ [])
    ∷ sheet_of (plan 3 2 [] [] (4 ∷ 7 ∷ [])) four (0 ∷ 0 ∷ [])
    ∷ sheet_of (plan 2 2 [] [] (C ∷ [])) four (0 ∷ 0 ∷ [])
    ∷ sheet_of (plan 2 3 (AB ∷ AB ∷ []) (0 ∷ 0 ∷ []) []) four (0 ∷ 0 ∷ [])
    ∷ sheet_of (plan 2 3 [] [] (AB ∷ AB ∷ [])) four (0 ∷ 0 ∷ [])
    ∷ sheet_of (plan 2 3 [] [] (AB ∷ ABC ∷ [])) four (0 ∷ 0 ∷ [])
    ∷ sheet_of (plan 2 2 [] [] []) (pos 3 ∷ pos 5 ∷ pos 4 ∷ []) (0 ∷ 0 ∷ 0 ∷ 0 ∷ [])
    ∷ sheet_of (plan 3 1 [] [] []) (pos 2 ∷ pos 5 ∷ pos 100_001 ∷ []) (0 ∷ 0 ∷ [])
    ∷ sheet_of (plan 2 2 [] [] []) four (1 ∷ 0 ∷ 0 ∷ 0 ∷ [])
    ∷ sheet_of (plan 2 4 (replicate 7 AB) (replicate 7 0) []) four (0 ∷ 0 ∷ [])
    ∷ sheet_of (made 3 (plan 2 1 [] [] [])) four (0 ∷ 0 ∷ [])
    ∷ sheet_of (made 2 (plan 2 2 [] [] [])) four (0 ∷ 0 ∷ 0 ∷ 0 ∷ [])
    ∷ sheet_of (plan 3 2 [] [] (5 ∷ [])) (map pos nine) (0 ∷ 0 ∷ 0 ∷ 0 ∷ [])
    ∷ sheet_of (plan 3 2 [] [] (4 ∷ [])) (map pos nine) (0 ∷ 0 ∷ 0 ∷ 2 ∷ [])
    ∷ []

small-inputs : map (λ sheet. read_refused sheet 9) refused_sheets ≡ 1 ∷ 2 ∷ 3 ∷ 4 ∷ 5 ∷ 6 ∷ 7 ∷ 8 ∷ 11 ∷ 12 ∷ 13 ∷ 4 ∷ 16 ∷ 11 ∷ 5 ∷ 13 ∷ []
unfolding sheet_of sheet_fields bytes_of each reading_bytes bytes read_refused refused_with needless plan_in readings_of reading_at twos big fields_of parse bodies body_at bad_fields bad_from wrong_readings wrong_rows any_beyond is_beyond bad_marks bad_mark with_plan plan_refused bad_levels bad_factors most_two most_three bad_counts bad_words bad_word bad_sign bad_digits used_digits lowest_digit repeated dependent loses_factor factor_word bad_repeats is_repeats most_readings any among beyond letters combined times some_combination combines_to some bits Σℕ reading_limit two_reading_limit three_reading_limit factors_of size two three tab_from
small-inputs = refl

-- S13: "if the sheet is refused, an empty part"; of `sample`, which only a narrow column has refused, it gives the marks all the same
no-marks : map marks_of refused_sheets ≡ replicate 16 []
unfolding sheet_of sheet_fields bytes_of each reading_bytes bytes marks_of marks_refused refused_with needless plan_in readings_of reading_at twos big fields_of parse bodies body_at bad_fields bad_from wrong_readings wrong_rows any_beyond is_beyond bad_marks bad_mark with_plan plan_refused bad_levels bad_factors most_two most_three bad_counts bad_words bad_word bad_sign bad_digits used_digits lowest_digit repeated dependent loses_factor factor_word bad_repeats is_repeats most_readings any among beyond letters combined times some_combination combines_to some bits Σℕ reading_limit two_reading_limit three_reading_limit factors_of size two three tab_from
no-marks = refl
