-- Sheets whose runs are made more than once, and three-level sheets with a block word, byte by byte, computed over the definitions.
--
--   one levels k, block w, six r                fields: levels and k; a block word below 256; how often runs are made
--   in_four xs, readings xs, marks ms           small readings in four bytes each, and their field; the field of marks
--   twice                                       one factor, each run made twice: readings 3, 5 and 4, 8
--   twice-plan, twice-column, twice-marks       what both calls give of it
--   rooms                                       the reader's numbers by the places of its column
--   refused                                     sheets that are refused for their field 6, or for readings that do not go with it
--   numbers, no-marks                           their numbers; the marks call gives an empty part of each
--   nine, nine_by words ms                      readings of two factors of three levels, and their sheet with fields of words, and with marks
--   in_blocks                                   the sheet with the block word AB, and the row AB marked
--   blocks-plan, blocks-column, blocks-marks    what both calls give of it
--   blocks_accepted, blocks-accepted            other such sheets, which are accepted
--   blocks_refused, blocks-numbers              and some that are refused for their words or marks, with their numbers
use Rattle.std.specs.Prelude.{◌≡◌, refl, List, [], ◌∷◌, ◌++◌, map, ℕ, ◌*◌, pos, length, replicate}
use Rattle.algebra.specs.Bits.{bits}
use Rattle.algebra.specs.Naturals.{Σℕ}
use Rattle.algebra.specs.Search.{some}
use Rattle.algebra.specs.Tab.{tab_from}
use Rattle.contrasts.specs.Limits.{two_reading_limit, three_reading_limit, most_two, most_three, is_repeats, most_readings}
use Rattle.contrasts.proofs.Factors.{two, three}
use Rattle.contrasts.specs.Totals.{size}
use Rattle.words.specs.Words.{letters, beyond, times, combined, any, among, repeated}
use Rattle.plan.specs.Check.{bad_levels, bad_factors, bad_counts, bad_word, bad_sign, bad_digits, used_digits, lowest_digit, bad_words, dependent, factor_word, loses_factor, bad_repeats, plan_refused, with_plan}
use Rattle.plan.specs.Limits.{reading_limit, is_beyond}
use Rattle.plan.specs.Examples.{plan, made}
use Rattle.plan.specs.Plan.{factors_of, some_combination, combines_to}
use Rattle.columns.specs.Refusals.{wrong_readings, any_beyond}
use Rattle.rows.specs.Kinds.{wrong_rows, bad_mark, bad_marks}
use Rattle.numerals.specs.Numbers.{big, twos}
use Rattle.fields.specs.Fields.{parse, fields_of, bodies, body_at}
use Rattle.fields.specs.Tags.{bad_from, bad_fields}
use Rattle.contents.specs.Contents.{needless, plan_in, reading_at, readings_of}
use Rattle.sheet.specs.Sheet.{refused_with, read_refused, read_plan, read_column, marks_refused, marks_of}

abbrev one : ℕ → ℕ → List ℕ
one levels k = 1 ∷ 0 ∷ 2 ∷ levels ∷ k ∷ []

-- S6
abbrev block : ℕ → List ℕ
block w = 3 ∷ 0 ∷ 2 ∷ 0 ∷ w ∷ []

abbrev six : ℕ → List ℕ
six r = 6 ∷ 0 ∷ 1 ∷ r ∷ []

abbrev in_four : List ℕ → List ℕ
in_four [] = []
in_four (x ∷ xs) = 0 ∷ 0 ∷ 0 ∷ x ∷ in_four xs

abbrev readings : List ℕ → List ℕ
readings xs = 4 ∷ 0 ∷ 4 * length xs ∷ in_four xs

abbrev marks : List ℕ → List ℕ
marks ms = 5 ∷ 0 ∷ length ms ∷ ms

-- ---- runs that are made more than once

abbrev pub twice : List ℕ
twice = one 2 1 ++ six 2 ++ readings (3 ∷ 5 ∷ 4 ∷ 8 ∷ []) ++ marks (0 ∷ 0 ∷ [])

-- S14, S15: the plan; the first four of six places; the marks
twice-plan : read_plan twice 6 ≡ made 2 (plan 2 1 [] [] [])
unfolding read_plan read_refused refused_with needless plan_in readings_of reading_at twos big fields_of parse bodies body_at bad_fields bad_from wrong_readings wrong_rows any_beyond is_beyond bad_marks bad_mark with_plan plan_refused bad_levels bad_factors most_two most_three bad_counts bad_words bad_word bad_sign repeated dependent loses_factor factor_word bad_repeats is_repeats most_readings any among beyond letters combined times some_combination combines_to some bits Σℕ reading_limit two_reading_limit three_reading_limit factors_of size two three tab_from
twice-plan = refl

twice-column : read_column twice (replicate 6 (pos 9)) ≡ pos 3 ∷ pos 5 ∷ pos 4 ∷ pos 8 ∷ pos 9 ∷ pos 9 ∷ []
unfolding read_column read_refused refused_with needless plan_in readings_of reading_at twos big fields_of parse bodies body_at bad_fields bad_from wrong_readings wrong_rows any_beyond is_beyond bad_marks bad_mark with_plan plan_refused bad_levels bad_factors most_two most_three bad_counts bad_words bad_word bad_sign repeated dependent loses_factor factor_word bad_repeats is_repeats most_readings any among beyond letters combined times some_combination combines_to some bits Σℕ reading_limit two_reading_limit three_reading_limit factors_of size two three tab_from
twice-column = refl

twice-marks : marks_of twice ≡ 0 ∷ 0 ∷ []
unfolding marks_of marks_refused refused_with needless plan_in readings_of reading_at twos big fields_of parse bodies body_at bad_fields bad_from wrong_readings wrong_rows any_beyond is_beyond bad_marks bad_mark with_plan plan_refused bad_levels bad_factors most_two most_three bad_counts bad_words bad_word bad_sign repeated dependent loses_factor factor_word bad_repeats is_repeats most_readings any among beyond letters combined times some_combination combines_to some bits Σℕ reading_limit two_reading_limit three_reading_limit factors_of size two three tab_from
twice-marks = refl

-- N11, S15: a column of N places, of one more, and of N times r
rooms : map (read_refused twice) (2 ∷ 3 ∷ 4 ∷ []) ≡ 11 ∷ 11 ∷ 0 ∷ []
unfolding read_refused refused_with needless plan_in readings_of reading_at twos big fields_of parse bodies body_at bad_fields bad_from wrong_readings wrong_rows any_beyond is_beyond bad_marks bad_mark with_plan plan_refused bad_levels bad_factors most_two most_three bad_counts bad_words bad_word bad_sign repeated dependent loses_factor factor_word bad_repeats is_repeats most_readings any among beyond letters combined times some_combination combines_to some bits Σℕ reading_limit two_reading_limit three_reading_limit factors_of size two three tab_from
rooms = refl

-- N16: a field 6 that holds 1; one that holds 3; S15: N readings, where there are to be N times r; L12: 16 before 11, and 3 before 16
abbrev refused : List (List ℕ)
refused =
    (one 2 1 ++ six 1 ++ readings (3 ∷ 5 ∷ []) ++ marks (0 ∷ 0 ∷ []))
    ∷ (one 2 1 ++ six 3 ++ readings (3 ∷ 5 ∷ 4 ∷ 8 ∷ 2 ∷ 6 ∷ []) ++ marks (0 ∷ 0 ∷ []))
    ∷ (one 2 1 ++ six 2 ++ readings (3 ∷ 5 ∷ []) ++ marks (0 ∷ 0 ∷ []))
    ∷ (one 2 1 ++ six 1 ++ readings (3 ∷ 5 ∷ 4 ∷ []) ++ marks (0 ∷ 0 ∷ []))
    ∷ (one 2 11 ++ six 1 ++ readings (3 ∷ 5 ∷ []) ++ marks (0 ∷ 0 ∷ []))
    ∷ []

numbers : map (λ sheet. read_refused sheet 8) refused ≡ 16 ∷ 16 ∷ 11 ∷ 16 ∷ 3 ∷ []
unfolding read_refused refused_with needless plan_in readings_of reading_at twos big fields_of parse bodies body_at bad_fields bad_from wrong_readings wrong_rows any_beyond is_beyond bad_marks bad_mark with_plan plan_refused bad_levels bad_factors most_two most_three bad_counts bad_words bad_word bad_sign repeated dependent loses_factor factor_word bad_repeats is_repeats most_readings any among beyond letters combined times some_combination combines_to some bits Σℕ reading_limit two_reading_limit three_reading_limit factors_of size two three tab_from
numbers = refl

no-marks : map marks_of refused ≡ replicate 5 []
unfolding marks_of marks_refused refused_with needless plan_in readings_of reading_at twos big fields_of parse bodies body_at bad_fields bad_from wrong_readings wrong_rows any_beyond is_beyond bad_marks bad_mark with_plan plan_refused bad_levels bad_factors most_two most_three bad_counts bad_words bad_word bad_sign repeated dependent loses_factor factor_word bad_repeats is_repeats most_readings any among beyond letters combined times some_combination combines_to some bits Σℕ reading_limit two_reading_limit three_reading_limit factors_of size two three tab_from
no-marks = refl

-- ---- a block word at three levels

abbrev pub nine : List ℕ
nine = 2 ∷ 5 ∷ 3 ∷ 1 ∷ 4 ∷ 6 ∷ 7 ∷ 8 ∷ 9 ∷ []

abbrev nine_by : List ℕ → List ℕ → List ℕ
nine_by words ms = one 3 2 ++ words ++ readings nine ++ marks ms

-- P14, P15: the word 4 has the digits 1 and 1; V19: its row "may be marked as error"
abbrev pub in_blocks : List ℕ
in_blocks = nine_by (block 4) (0 ∷ 0 ∷ 0 ∷ 1 ∷ [])

blocks-plan : read_plan in_blocks 9 ≡ plan 3 2 [] [] (4 ∷ [])
unfolding read_plan read_refused refused_with needless plan_in readings_of reading_at twos big fields_of parse bodies body_at bad_fields bad_from wrong_readings wrong_rows any_beyond is_beyond bad_marks bad_mark with_plan plan_refused bad_levels bad_factors most_two most_three bad_counts bad_words bad_word bad_sign bad_digits used_digits lowest_digit repeated dependent loses_factor factor_word bad_repeats is_repeats most_readings any among beyond letters combined times some_combination combines_to some bits Σℕ reading_limit two_reading_limit three_reading_limit factors_of size two three tab_from
blocks-plan = refl

blocks-column : read_column in_blocks (replicate 10 (pos 0)) ≡ map pos nine ++ (pos 0 ∷ [])
unfolding read_column read_refused refused_with needless plan_in readings_of reading_at twos big fields_of parse bodies body_at bad_fields bad_from wrong_readings wrong_rows any_beyond is_beyond bad_marks bad_mark with_plan plan_refused bad_levels bad_factors most_two most_three bad_counts bad_words bad_word bad_sign bad_digits used_digits lowest_digit repeated dependent loses_factor factor_word bad_repeats is_repeats most_readings any among beyond letters combined times some_combination combines_to some bits Σℕ reading_limit two_reading_limit three_reading_limit factors_of size two three tab_from
blocks-column = refl

blocks-marks : marks_of in_blocks ≡ 0 ∷ 0 ∷ 0 ∷ 1 ∷ []
unfolding marks_of marks_refused refused_with needless plan_in readings_of reading_at twos big fields_of parse bodies body_at bad_fields bad_from wrong_readings wrong_rows any_beyond is_beyond bad_marks bad_mark with_plan plan_refused bad_levels bad_factors most_two most_three bad_counts bad_words bad_word bad_sign bad_digits used_digits lowest_digit repeated dependent loses_factor factor_word bad_repeats is_repeats most_readings any among beyond letters combined times some_combination combines_to some bits Σℕ reading_limit two_reading_limit three_reading_limit factors_of size two three tab_from
blocks-marks = refl

-- P15: no row marked; the word 7, AB2; S14: the field of the repeats after that of the word
abbrev blocks_accepted : List (List ℕ)
blocks_accepted =
    nine_by (block 4) (replicate 4 0)
    ∷ nine_by (block 7) (replicate 4 0)
    ∷ (one 3 2 ++ block 4 ++ six 2 ++ readings (nine ++ nine) ++ marks (replicate 4 0))
    ∷ []

blocks-accepted : map (λ sheet. read_refused sheet 18) blocks_accepted ≡ replicate 3 0
unfolding read_refused refused_with needless plan_in readings_of reading_at twos big fields_of parse bodies body_at bad_fields bad_from wrong_readings wrong_rows any_beyond is_beyond bad_marks bad_mark with_plan plan_refused bad_levels bad_factors most_two most_three bad_counts bad_words bad_word bad_sign bad_digits used_digits lowest_digit repeated dependent loses_factor factor_word bad_repeats is_repeats most_readings any among beyond letters combined times some_combination combines_to some bits Σℕ reading_limit two_reading_limit three_reading_limit factors_of size two three tab_from
blocks-accepted = refl

-- N4: two words; two that break the digit rule too; an added factor
-- N5: words that break the digit rule: 3 has one digit that is not zero, 5 has 2 for its lowest, 260, of both bytes of its field, has more than two
-- digits; L12: 5 before 16
-- N13: mark 2 on the row of the letters used, and mark 1 on the mean
abbrev blocks_refused : List (List ℕ)
blocks_refused =
    nine_by (block 4 ++ block 4) (replicate 4 0)
    ∷ nine_by (block 3 ++ block 3) (replicate 4 0)
    ∷ nine_by (2 ∷ 0 ∷ 3 ∷ 0 ∷ 3 ∷ 0 ∷ []) (replicate 4 0)
    ∷ nine_by (block 3) (replicate 4 0)
    ∷ nine_by (block 5) (replicate 4 0)
    ∷ nine_by (3 ∷ 0 ∷ 2 ∷ 1 ∷ 4 ∷ []) (replicate 4 0)
    ∷ nine_by (block 3 ++ six 1) (replicate 4 0)
    ∷ nine_by (block 4) (0 ∷ 0 ∷ 0 ∷ 2 ∷ [])
    ∷ nine_by (block 4) (1 ∷ 0 ∷ 0 ∷ 0 ∷ [])
    ∷ []

blocks-numbers : map (λ sheet. read_refused sheet 9) blocks_refused ≡ 4 ∷ 4 ∷ 4 ∷ 5 ∷ 5 ∷ 5 ∷ 5 ∷ 13 ∷ 13 ∷ []
unfolding read_refused refused_with needless plan_in readings_of reading_at twos big fields_of parse bodies body_at bad_fields bad_from wrong_readings wrong_rows any_beyond is_beyond bad_marks bad_mark with_plan plan_refused bad_levels bad_factors most_two most_three bad_counts bad_words bad_word bad_sign bad_digits used_digits lowest_digit repeated dependent loses_factor factor_word bad_repeats is_repeats most_readings any among beyond letters combined times some_combination combines_to some bits Σℕ reading_limit two_reading_limit three_reading_limit factors_of size two three tab_from
blocks-numbers = refl
