-- That the programs of `WrongPrograms.antt` break their statements: what the promises come to at the named inputs, computed, and the proof.
--
--   four-accepted .. rules-marks    the promises at these inputs
--   wrong-programs                  the proof of THE CLAIM
use Rattle.std.specs.Prelude.{◌≡◌, refl, List, [], ◌∷◌, ℕ, suc, ◌<◌, ℤ, pos, nat_abs, length}
use Rattle.std.proofs.Common.{sym, ◌∙◌, ap, le_trans, arith}
use Rattle.algebra.specs.Bits.{bits}
use Rattle.algebra.specs.Naturals.{Σℕ}
use Rattle.algebra.specs.Search.{some}
use Rattle.algebra.specs.Sum.{Σ}
use Rattle.algebra.specs.Tab.{tab_from}
use Rattle.contrasts.specs.Columns.{read, pass_of, totals_of, run_sums_in, squares_of}
use Rattle.contrasts.specs.Limits.{two_reading_limit, three_reading_limit, value_limit, most_two, most_three, is_repeats, most_readings}
use Rattle.contrasts.specs.Repeats.{run_sums, within_runs}
use Rattle.contrasts.specs.Rows.{row_of, degrees_of}
use Rattle.contrasts.proofs.Factors.{two, three}
use Rattle.contrasts.specs.Codings.{neg}
use Rattle.contrasts.specs.Totals.{size, coef*, total, denominator, squared}
use Rattle.contrasts.specs.Passes.{pass_at, pass_from}
use Rattle.contrasts.specs.Checks.{check_weight, round, rounds}
use Rattle.contrasts.proofs.Laws.Repeats.{sums-once}
use Rattle.words.specs.Words.{letters, beyond, times, combined, any, among, repeated}
use Rattle.plan.specs.declared.types.Plan.{Plan}
use Rattle.plan.specs.Check.{bad_levels, bad_factors, bad_counts, bad_word, bad_sign, bad_words, dependent, factor_word, loses_factor, plan_refused, with_plan, bad_repeats}
use Rattle.plan.specs.Limits.{reading_limit, is_beyond}
use Rattle.plan.specs.Outcome.{Outcome, given, refused}
use Rattle.plan.specs.Plan.{factors_of, run_sums_of, some_combination, combines_to}
use Rattle.plan.proofs.Laws.Answers.{refused-is, given_is, given-with, written_new}
use Rattle.plan.proofs.Laws.Limits.{run-admitted}
use Rattle.columns.specs.Refusals.{wrong_length, wrong_readings, any_beyond, readings_refused}
use Rattle.rows.specs.Kinds.{kept_row, wrong_rows, kind_by_mark, kind_of, bad_mark, bad_marks}
use Rattle.yates.specs.Calls.{pass_refused, pass_column, totals_column}
use Rattle.yates.specs.Laws.Admitted.{pass-admits}
use Rattle.estimates.specs.Estimate.{Value, mean, difference, lost, difference_of, value_by, estimate_refused, estimate_value, exponent_of}
use Rattle.anova.specs.declared.types.Figures.{Figures}
use Rattle.anova.specs.Table.{block_degrees, row_degrees, wrong_lengths, table_refused, source_of, total_source, checks_of, table_figures, table_totals, joined, within_source}
use Rattle.numerals.specs.Numbers.{big, twos}
use Rattle.fields.specs.Fields.{parse, fields_of, bodies, body_at}
use Rattle.fields.specs.Tags.{bad_from, bad_fields}
use Rattle.contents.specs.Contents.{plan_in, reading_at, readings_of, needless}
use Rattle.sheet.specs.Sheet.{refused_with, marks_refused, marks_of}
use Rattle.printing.specs.Printed.{printed, print_refused, text_of}
use Rattle.printing.specs.Examples.{rules_sheet, rules-text, three_sheet, three-text}
use Rattle.promises.specs.Promised.{promised_estimate}
use Rattle.claims.specs.AnyOrder.{RunSums, own_pass}
use Rattle.claims.specs.WrongPrograms.{PassCall, KeepsPass, KeepsTable, KeepsPrint, constant_table, figures_by, untouched_pass, does_all, first_does_all, does_all_at_a, after_told, four, readings, four_totals, zeros, all_kept, pooled, blank, WrongPrograms, rows_of_kind, three_levels, three_readings}

-- ---- what the promises come to at the named inputs, computed

four-accepted : plan_refused four ≡ 0
unfolding plan_refused bad_levels bad_factors most_two most_three bad_counts bad_words bad_word bad_sign repeated dependent loses_factor factor_word any among beyond letters combined times some_combination combines_to some bits Σℕ bad_repeats is_repeats most_readings factors_of size two three
four-accepted = refl

-- the pass of A over 3, 5, 4, 8 is made, by the call and by demand 3; that of B over the totals
pass-A : pass_column four 0 readings ≡ pos 8 ∷ neg 2 ∷ pos 12 ∷ neg 4 ∷ []
unfolding pass_column pass_refused with_plan plan_refused bad_levels bad_factors most_two most_three bad_counts bad_words bad_word bad_sign repeated dependent loses_factor factor_word any among beyond letters combined times some_combination combines_to some bits Σℕ wrong_length any_beyond is_beyond value_limit factors_of size two pass_of pass_from pass_at Σ tab_from bad_repeats is_repeats most_readings three
pass-A = refl

done-A : pass_refused four 0 readings ≡ 0
unfolding pass_refused with_plan plan_refused bad_levels bad_factors most_two most_three bad_counts bad_words bad_word bad_sign repeated dependent loses_factor factor_word any among beyond letters combined times some_combination combines_to some bits Σℕ wrong_length any_beyond is_beyond value_limit factors_of size two bad_repeats is_repeats most_readings three
done-A = refl

own-A : own_pass four 0 readings ≡ pos 8 ∷ neg 2 ∷ pos 12 ∷ neg 4 ∷ []
unfolding factors_of size two pass_of pass_from pass_at Σ tab_from
own-A = refl

own-B : own_pass four 1 four_totals ≡ pos 16 ∷ neg 4 ∷ pos 24 ∷ neg 8 ∷ []
unfolding factors_of size two pass_of pass_from pass_at Σ tab_from
own-B = refl

four-totals : totals_of (factors_of four) readings ≡ four_totals
unfolding factors_of size two totals_of total coef* Σ tab_from
four-totals = refl

totals-over-zeros : totals_column four readings zeros ≡ four_totals
unfolding totals_column readings_refused with_plan plan_refused bad_levels bad_factors most_two most_three bad_counts bad_words bad_word bad_sign repeated dependent loses_factor factor_word any among beyond letters combined times some_combination combines_to some bits Σℕ wrong_length any_beyond is_beyond reading_limit two_reading_limit three_reading_limit factors_of size two totals_of total coef* Σ tab_from bad_repeats is_repeats most_readings three run_sums run_sums_in wrong_readings
totals-over-zeros = refl

-- three tables are made: of 3, 5, 4, 8 with every row kept and with AB pooled, and of zeros
made : (table_refused four readings all_kept zeros all_kept ≡ 0) × (table_refused four readings pooled zeros all_kept ≡ 0) × (table_refused four zeros all_kept zeros all_kept ≡ 0)
unfolding table_refused wrong_lengths wrong_rows wrong_length any_beyond is_beyond bad_marks bad_mark with_plan plan_refused bad_levels bad_factors most_two most_three bad_counts bad_words bad_word bad_sign repeated dependent loses_factor factor_word any among beyond letters combined times some_combination combines_to some bits Σℕ reading_limit two_reading_limit three_reading_limit factors_of size two bad_repeats is_repeats most_readings three wrong_readings
made = (refl, refl, refl)

sums-of-four : run_sums_of four readings ≡ readings
unfolding factors_of size two
sums-of-four = sums-once refl

table-totals : table_totals four readings all_kept zeros all_kept ≡ four_totals
unfolding table_totals
table-totals =
    sym (written_new _ (totals_of (factors_of four) (run_sums_of four readings)) zeros made.0)
    ∙ ap (totals_of (factors_of four)) sums-of-four
    ∙ four-totals

total-numerators : ((table_figures four readings all_kept).total.numerator ≡ 456) × ((table_figures four zeros all_kept).total.numerator ≡ 0)
unfolding table_figures total_source factors_of size two denominator squared Σℕ within_source joined within_runs run_sums run_sums_in squares_of
total-numerators = (refl, refl)

kept-degrees : ((table_figures four readings all_kept).kept.degrees ≡ 3) × ((table_figures four readings pooled).kept.degrees ≡ 2)
unfolding table_figures source_of row_degrees row_of block_degrees kind_of kind_by_mark combines_to some_combination some combined times bits Σℕ factors_of size two degrees_of within_source joined within_runs run_sums run_sums_in squares_of
kept-degrees = (refl, refl)

-- one three-level factor: one row is kept, and it has 2 degrees
three_made : table_refused three_levels three_readings (0 ∷ 0 ∷ []) three_readings (0 ∷ 0 ∷ []) ≡ 0
unfolding table_refused wrong_lengths wrong_rows wrong_length any_beyond is_beyond bad_marks bad_mark with_plan plan_refused bad_levels bad_factors most_two most_three bad_counts bad_words bad_word bad_sign repeated dependent loses_factor factor_word any among beyond letters combined times some_combination combines_to some bits Σℕ reading_limit two_reading_limit three_reading_limit factors_of size two three bad_repeats is_repeats most_readings wrong_readings
three_made = refl

two-degrees : (rows_of_kind three_levels (0 ∷ 0 ∷ []) kept_row ≡ 1) × ((table_figures three_levels three_readings (0 ∷ 0 ∷ [])).kept.degrees ≡ 2)
unfolding table_figures source_of row_degrees row_of block_degrees kind_of kind_by_mark combines_to some_combination some combined times bits Σℕ factors_of size two three degrees_of within_source joined within_runs run_sums run_sums_in squares_of
two-degrees = (refl, refl)

check-numbers : ((table_figures four readings all_kept).checks.readings ≡ pos 12) × ((table_figures four zeros all_kept).checks.readings ≡ pos 0)
unfolding table_figures checks_of factors_of size two check_weight round rounds Σ run_sums run_sums_in tab_from
check-numbers = (refl, refl)

-- the estimate of A, whose total is -6, is not lost
A-estimated : estimate_refused four 1 (neg 6) ≡ 0
unfolding estimate_refused with_plan plan_refused bad_levels bad_factors most_two most_three bad_counts bad_words bad_word bad_sign repeated dependent loses_factor factor_word any among beyond letters combined times some_combination combines_to some bits Σℕ is_beyond reading_limit two_reading_limit three_reading_limit bad_repeats is_repeats most_readings factors_of size two three
A-estimated = refl

A-not-lost : estimate_value four 1 (neg 6) ≡ difference (difference_of 2 1 (neg 6))
unfolding value_by combines_to some_combination combined times some bits Σℕ exponent_of
A-not-lost = refl

-- the sheet of the rules' example, and that of 2, 5, 3 at three levels
sheets-accepted : (print_refused rules_sheet ≡ 0) × (print_refused three_sheet ≡ 0)
unfolding print_refused marks_refused refused_with plan_in readings_of reading_at twos big fields_of parse bodies body_at bad_fields bad_from wrong_length wrong_rows any_beyond is_beyond bad_marks bad_mark with_plan plan_refused bad_levels bad_factors most_two most_three bad_counts bad_words bad_word bad_sign repeated dependent loses_factor factor_word any among beyond letters combined times some_combination combines_to some bits Σℕ reading_limit two_reading_limit three_reading_limit factors_of size two three tab_from bad_repeats is_repeats most_readings needless wrong_readings
sheets-accepted = (refl, refl)

rules-marks : marks_of rules_sheet ≡ 0 ∷ 0 ∷ 0 ∷ 1 ∷ []
unfolding marks_of marks_refused refused_with plan_in readings_of reading_at twos big fields_of parse bodies body_at bad_fields bad_from wrong_length wrong_rows any_beyond is_beyond bad_marks bad_mark with_plan plan_refused bad_levels bad_factors most_two most_three bad_counts bad_words bad_word bad_sign repeated dependent loses_factor factor_word any among beyond letters combined times some_combination combines_to some bits Σℕ reading_limit two_reading_limit three_reading_limit factors_of size two three tab_from bad_repeats is_repeats most_readings needless wrong_readings
rules-marks = refl

-- ---- the proof

-- the size of a column's first value
abbrev first : List ℤ → ℕ
first xs = nat_abs (read xs 0)

-- a table call that differs in its figures alone has the promised ones, where a table is made
same_in : (figures : Plan → List ℤ → List ℕ → Figures) → KeepsTable (figures_by figures)
    → (p : Plan) (readings : List ℤ) (marks : List ℕ) (totals : List ℤ) (rows : List ℕ) → table_refused p readings marks totals rows ≡ 0
    → figures p readings marks ≡ table_figures p readings marks
same_in figures keeps p readings marks totals rows e =
    (given_is
    (table_refused p readings marks totals rows)
    (table_figures p readings marks)
    (sym (given-with _ (figures p readings marks) e) ∙ ap (λ r. r.answer) (keeps p readings marks totals rows))
    ).1

same-figures : (figures : Plan → List ℤ → List ℕ → Figures) → KeepsTable (figures_by figures)
    → (readings : List ℤ) (marks : List ℕ) → table_refused four readings marks zeros all_kept ≡ 0
    → figures four readings marks ≡ table_figures four readings marks
same-figures figures keeps readings marks e = same_in figures keeps four readings marks zeros all_kept e

-- the texts of the two sheets are 90 and 68 bytes long
two-lengths : (t : List ℕ) → length t ≡ length (text_of rules_sheet) → length t ≡ length (text_of three_sheet) → ⊥
two-lengths t a b = omega (arith, a ∙ ap length rules-text, b ∙ ap length three-text)

printed-table : (t sheet : List ℕ) → print_refused sheet ≡ 0 → printed (print_refused sheet) t ≡ t
unfolding printed
printed-table t sheet e = sym (written_new (print_refused sheet) t _ e)

table-length : (t : List ℕ) → KeepsPrint (constant_table t) → (sheet : List ℕ) → print_refused sheet ≡ 0 → length t ≡ length (text_of sheet)
table-length t keeps sheet e = ap length (sym (printed-table t sheet e)) ∙ ap (λ r. r.count) (keeps sheet blank)

-- later calls leave the column, so that the first one's totals stay
idle : (n : ℕ) (p : Plan) (fs : List ℕ) (column : List ℤ) → after_told first_does_all (suc n) p fs column ≡ column
unfolding after_told
idle n p [] column = refl
idle n p (f ∷ fs) column = idle (suc n) p fs column

all-at-once : (p : Plan) → plan_refused p ≡ 0 → (column : List ℤ) → RunSums p column → (f : ℕ) → f < p.k → (fs : List ℕ)
    → after_told first_does_all 0 p (f ∷ fs) column ≡ totals_of (factors_of p) column
unfolding after_told
all-at-once p ok column start f base fs =
    idle 0 p fs _
    ∙ sym (written_new (pass_refused p f column) (totals_of (factors_of p) column) column
    (pass-admits (record { plan = ok; base = base; whole = start.whole; within = λ i. le_trans (start.within i) (run-admitted p ok) })))

-- a pass call that keeps its promise has 8 in the first place after the pass of A
eight : (program : PassCall) → KeepsPass program → first (program four 0 readings).column ≡ 8
eight program keeps = ap (λ r. first r.column) (keeps four 0 readings) ∙ ap first pass-A

all-at-A : (does_all four 0 readings).column ≡ four_totals
all-at-A = sym (written_new (pass_refused four 0 readings) (totals_of (factors_of four) readings) readings done-A) ∙ four-totals

A-then-B : after_told first_does_all 0 four (0 ∷ 1 ∷ []) readings ≡ four_totals
unfolding after_told
A-then-B = idle 0 four (1 ∷ []) (does_all four 0 readings).column ∙ all-at-A

-- a value is lost, or not
abbrev is_lost : Outcome Value → ℕ
is_lost (given lost) = 1
is_lost (given (mean x)) = 0
is_lost (given (difference x)) = 0
is_lost (refused n) = 0

promised-not-lost : promised_estimate four 1 (neg 6) ≡ given (difference (difference_of 2 1 (neg 6)))
promised-not-lost = given-with _ (estimate_value four 1 (neg 6)) A-estimated ∙ ap given A-not-lost

pub wrong-programs : WrongPrograms
wrong-programs =
    record {
      refusing-plans = λ number keeps. (refused-is (plan_refused four) tt (keeps four)).1 four-accepted;
      refusing-tables = λ number keeps.
          (refused-is _ (table_figures four readings all_kept) (ap (λ r. r.answer) (keeps four readings all_kept zeros all_kept))).1 made.0;
      constant-text = λ t keeps. two-lengths t (ap (λ r. r.count) (keeps rules_sheet blank)) (ap (λ r. r.count) (keeps three_sheet blank));
      constant-table = λ t keeps.
          two-lengths t (table-length t keeps rules_sheet sheets-accepted.0) (table-length t keeps three_sheet sheets-accepted.1);
      constant-figures = λ f keeps.
          let same = same-figures (λ p readings marks. f) keeps in
          omega (
            arith,
            ap (λ g. g.total.numerator) (same readings all_kept made.0) ∙ total-numerators.0,
            ap (λ g. g.total.numerator) (same zeros all_kept made.2) ∙ total-numerators.1,
          );
      untouched-pass = λ keeps. omega (arith, eight untouched_pass keeps);
      untouched-totals = λ keeps. omega (arith, ap (λ r. first r.column) (keeps four readings zeros) ∙ ap first totals-over-zeros);
      untouched-table = λ keeps. omega (arith, ap (λ r. first r.totals) (keeps four readings all_kept zeros all_kept) ∙ ap first table-totals);
      first-does-all = λ keeps. omega (arith, sym (ap first all-at-A) ∙ eight does_all keeps);
      later-idle = λ n keeps. omega (arith, eight untouched_pass keeps);
      does-all-at-A = λ keeps. omega (arith, sym (ap first all-at-A) ∙ eight does_all_at_a keeps);
      not-A = λ own. omega (arith, sym (ap first all-at-A) ∙ ap first (own ∙ own-A));
      not-B = λ own. omega (arith, ap first (own ∙ own-B));
      ends_so = A-then-B;
      ends-right = all-at-once;
      invented-degrees = λ m k b e keeps.
          let same = same-figures _ keeps in
          omega (
            arith,
            ap (λ g. g.kept.degrees) (same readings all_kept made.0) ∙ kept-degrees.0,
            ap (λ g. g.kept.degrees) (same readings pooled made.1) ∙ kept-degrees.1,
          );
      all-to-mean = λ keeps. omega (arith, ap (λ g. g.kept.degrees) (same-figures _ keeps readings all_kept made.0) ∙ kept-degrees.0);
      one-degree-each = λ keeps.
          omega (
            arith,
            ap (λ g. g.kept.degrees) (same_in _ keeps three_levels three_readings (0 ∷ 0 ∷ []) three_readings (0 ∷ 0 ∷ []) three_made) ∙ two-degrees.1,
            two-degrees.0,
          );
      invented-checks = λ c keeps.
          let same = same-figures _ keeps in
          let size_of : Figures → ℕ = λ g. nat_abs g.checks.readings in
          omega (
            arith,
            ap size_of (same readings all_kept made.0) ∙ ap nat_abs check-numbers.0,
            ap size_of (same zeros all_kept made.2) ∙ ap nat_abs check-numbers.1,
          );
      lost-always = λ keeps. omega (arith, ap is_lost (keeps four 1 (neg 6)) ∙ ap is_lost promised-not-lost);
      lost-for-every = λ keeps.
          omega (arith, ap is_lost (sym (given-with _ lost A-estimated)) ∙ ap is_lost (keeps four 1 (neg 6)) ∙ ap is_lost promised-not-lost);
      empty-part = λ keeps. omega (arith, ap length (keeps rules_sheet ∙ rules-marks));
    }
