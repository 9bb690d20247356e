-- The number of the table of a small sheet, computed over the definitions.
--
--   sheet, numbers    two runs of one factor, the second reading beyond its limit: with slices of the right lengths, of too few totals, of too
--                     many rows
use Rattle.std.specs.Prelude.{◌≡◌, refl, List, [], ◌∷◌, ℕ}
use Rattle.algebra.specs.Bits.{bits}
use Rattle.algebra.specs.Naturals.{Σℕ}
use Rattle.algebra.specs.Search.{some}
use Rattle.algebra.specs.Tab.{tab_from}
use Rattle.contrasts.specs.Limits.{two_reading_limit, three_reading_limit, most_two, most_three, is_repeats, most_readings}
use Rattle.contrasts.proofs.Factors.{two, three}
use Rattle.contrasts.specs.Totals.{size}
use Rattle.words.specs.Words.{letters, beyond, times, combined, any, among, repeated}
use Rattle.plan.specs.Check.{bad_levels, bad_factors, bad_counts, bad_word, bad_sign, bad_words, dependent, factor_word, loses_factor, bad_repeats, plan_refused, with_plan}
use Rattle.plan.specs.Limits.{reading_limit, is_beyond}
use Rattle.plan.specs.Plan.{factors_of, some_combination, combines_to}
use Rattle.columns.specs.Refusals.{wrong_readings, wrong_length, any_beyond}
use Rattle.rows.specs.Kinds.{wrong_rows, bad_mark, bad_marks}
use Rattle.numerals.specs.Numbers.{big, twos}
use Rattle.fields.specs.Fields.{parse, fields_of, bodies, body_at}
use Rattle.fields.specs.Tags.{bad_from, bad_fields}
use Rattle.contents.specs.Contents.{needless, plan_in, reading_at, readings_of}
use Rattle.sheet.specs.Sheet.{refused_with}
use Rattle.tables.specs.Sheets.{wrong_slices, sheet_table_refused}

abbrev sheet : List ℕ
sheet =
    1 ∷ 0 ∷ 2 ∷ 2 ∷ 1 ∷ 4 ∷ 0 ∷ 8 ∷ 0 ∷ 0 ∷ 0 ∷ 3 ∷ 0 ∷ 255 ∷ 0 ∷ 0 ∷ 5 ∷ 0 ∷ 2 ∷ 0 ∷ 0 ∷ []

-- N12; N11, L12: 11 before 12
numbers : sheet_table_refused sheet 2 2 ∷ sheet_table_refused sheet 1 2 ∷ sheet_table_refused sheet 2 3 ∷ [] ≡ 12 ∷ 11 ∷ 11 ∷ []
unfolding sheet_table_refused wrong_slices wrong_length refused_with needless plan_in readings_of reading_at twos big fields_of parse bodies body_at bad_fields bad_from wrong_readings wrong_rows any_beyond is_beyond bad_marks bad_mark with_plan plan_refused bad_levels bad_factors most_two most_three bad_counts bad_words bad_word bad_sign repeated dependent loses_factor factor_word bad_repeats is_repeats most_readings any among beyond letters combined times some_combination combines_to some bits Σℕ reading_limit two_reading_limit three_reading_limit factors_of size two three tab_from
numbers = refl
