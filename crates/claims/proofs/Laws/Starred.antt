-- That the claim `Starred` holds: it is computed.
--
--   starred    the proof
use Rattle.std.specs.Prelude.{refl}
use Rattle.algebra.specs.Naturals.{Σℕ}
use Rattle.algebra.specs.Bits.{bits}
use Rattle.algebra.specs.Search.{some}
use Rattle.algebra.specs.Sorted.{sum_at}
use Rattle.algebra.specs.Sum.{Σ}
use Rattle.algebra.specs.Tab.{tab_from}
use Rattle.contrasts.specs.Columns.{totals_of, run_sums_in, squares_of}
use Rattle.contrasts.specs.Limits.{two_reading_limit, three_reading_limit, most_two, most_three, is_repeats, most_readings}
use Rattle.contrasts.specs.Rows.{row_of, degrees_of}
use Rattle.contrasts.proofs.Factors.{two, three}
use Rattle.contrasts.specs.Totals.{size, coef*, total, divisor*, denominator, weight*, numerator_of}
use Rattle.contrasts.specs.Checks.{check_weight, round, rounds}
use Rattle.words.specs.Words.{letters, beyond, times, combined, any, among, repeated}
use Rattle.plan.specs.Plan.{factors_of, some_combination, combines_to}
use Rattle.plan.specs.Limits.{reading_limit, is_beyond}
use Rattle.plan.specs.Check.{bad_levels, bad_factors, bad_counts, bad_word, bad_sign, bad_words, dependent, factor_word, loses_factor, plan_refused, with_plan, run_count, confounded_accepted, bad_repeats}
use Rattle.aliases.specs.Alias.{base_word, sign_ones, odd_signs, turned, alias_refused}
use Rattle.columns.specs.Refusals.{wrong_length, any_beyond, wrong_readings}
use Rattle.effects.specs.Effects.{effect_divisors}
use Rattle.rows.specs.Kinds.{wrong_rows, kind_by_mark, kind_of, bad_mark, bad_marks}
use Rattle.estimates.specs.Quotient.{quotient}
use Rattle.estimates.specs.Estimate.{printed_total, mean_of, difference_of, value_by, estimate_refused, exponent_of}
use Rattle.anova.specs.Table.{block_degrees, block_amount, block_source, row_degrees, row_left, wrong_lengths, table_refused, source_of, total_source, checks_of, table_figures, table_totals, table_rows, rows_of, joined, within_source}
use Rattle.contrasts.specs.Repeats.{run_sums, within_runs}
use Rattle.claims.specs.Starred.{Starred}

pub starred : Starred
unfolding table_refused table_totals table_rows table_figures source_of block_source block_degrees block_amount row_degrees row_left total_source checks_of rows_of wrong_lengths wrong_rows wrong_length any_beyond is_beyond bad_marks bad_mark kind_of kind_by_mark with_plan plan_refused bad_levels bad_factors most_two most_three bad_counts bad_words bad_word bad_sign repeated dependent loses_factor factor_word any among beyond letters combined times some_combination combines_to some bits Σℕ Σ reading_limit two_reading_limit three_reading_limit factors_of size two three total coef* totals_of tab_from divisor* denominator weight* numerator_of check_weight round rounds row_of degrees_of sum_at base_word sign_ones odd_signs turned alias_refused estimate_refused value_by mean_of difference_of printed_total quotient run_count effect_divisors confounded_accepted bad_repeats is_repeats most_readings within_source joined within_runs run_sums run_sums_in squares_of wrong_readings exponent_of
starred = refl
