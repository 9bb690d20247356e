-- Small plans in bytes, computed over the definitions.
--
--   factors, added, block                        fields: two levels and three factors; the word ABC with a sign; the block word AB
--   halves, turning, blocked                     heads: D = ABC and blocks; D = ABC with sign 1; blocks alone
--   high-letters, blocks                         the run call, in all eight runs
--   run-numbers, runs-kept                       what it refuses; its places stay then
--   to-BC                                        the alias call, of AD with either sign
--   alias-numbers, aliases-kept                  what it refuses; its places stay then
--   seven, values, kinds                         the estimate: a mean, a difference and an effect that is lost
--   estimate-numbers, kinds_kept, values-kept    what it refuses; its places stay then
--   lists                                        how many ways to block there are, and places that stay
use Rattle.std.specs.Prelude.{◌≡◌, refl, false, ℕ, pos, Float}
use mathlib.Core.List.{List, [], ◌∷◌, ◌++◌, flatten}
use Rattle.std.specs.Float.{fin}
use Rattle.algebra.specs.Bits.{bits}
use Rattle.algebra.specs.Naturals.{Σℕ}
use Rattle.algebra.specs.Search.{some}
use Rattle.algebra.specs.Tab.{tab, tab_from}
use Rattle.algebra.specs.Those.{those}
use Rattle.contrasts.specs.Codings.{neg}
use Rattle.contrasts.proofs.Factors.{two, three}
use Rattle.contrasts.specs.Limits.{two_reading_limit, three_reading_limit, most_two, most_three, is_repeats, most_readings}
use Rattle.contrasts.specs.Totals.{size}
use Rattle.words.specs.Words.{letters, beyond, shared, odd_in, times, combined, any, among, repeated}
use Rattle.plan.specs.Check.{bad_levels, bad_factors, bad_counts, bad_word, bad_sign, bad_words, dependent, factor_word, loses_factor, bad_repeats, plan_refused, with_plan}
use Rattle.plan.specs.Examples.{A, AB, AD, BC}
use Rattle.plan.specs.Limits.{reading_limit, is_beyond}
use Rattle.plan.specs.Plan.{factors_of, some_combination, combines_to}
use Rattle.runs.specs.Run.{high_by, high_in, high_letters, block_number, run_refused}
use Rattle.aliases.specs.Alias.{base_word, sign_ones, odd_signs, turned, alias_refused}
use Rattle.estimates.specs.Quotient.{quotient}
use Rattle.estimates.specs.Estimate.{exponent_of, printed_total, mean_of, difference_of, value_by, estimate_refused}
use Rattle.blockings.specs.Blockings.{lists_of, strictly_rising, is_blocking, blockings_of, bad_factor_count, bad_word_count, blockings_refused}
use Rattle.numerals.specs.Numbers.{big}
use Rattle.fields.specs.Fields.{parse, fields_of, bodies, body_at}
use Rattle.fields.specs.Tags.{bad_from}
use Rattle.contents.specs.Contents.{needless, plan_in}
use Rattle.heads.specs.Heads.{bad_head, head_refused, called}
use Rattle.facts.specs.Facts.{run_on_head, run_high, run_block, alias_on_head, alias_word, alias_turned, estimate_on_head, estimate_kind, estimate_double, blockings_count}

abbrev factors : List ℕ
factors = 1 ∷ 0 ∷ 2 ∷ 2 ∷ 3 ∷ []

abbrev added : ℕ → List ℕ
added sign = 2 ∷ 0 ∷ 3 ∷ 0 ∷ 7 ∷ sign ∷ []

abbrev block : List ℕ
block = 3 ∷ 0 ∷ 2 ∷ 0 ∷ AB ∷ []

abbrev halves : List ℕ
halves = factors ++ added 0 ++ block

abbrev turning : List ℕ
turning = factors ++ added 1

abbrev blocked : List ℕ
blocked = factors ++ block

-- ---- the run call; 99 stood in its places

-- P8, R8: the eight runs (1), a, b, ab, c, ac, bc, abc; D is 8
high-letters : tab 8 (λ r. run_high halves r 99) ≡ 0 ∷ 9 ∷ 10 ∷ 3 ∷ 12 ∷ 5 ∷ 6 ∷ 15 ∷ []
unfolding run_high run_on_head called head_refused bad_head needless plan_in big fields_of parse bodies body_at bad_from with_plan plan_refused bad_levels bad_factors most_two most_three bad_counts bad_words bad_word bad_sign repeated dependent loses_factor factor_word bad_repeats is_repeats most_readings any among beyond letters combined times some_combination combines_to some bits Σℕ factors_of size two three tab_from run_refused high_letters high_in high_by odd_in shared
high-letters = refl

-- R4
blocks : tab 8 (λ r. run_block halves r 99) ≡ 0 ∷ 1 ∷ 1 ∷ 0 ∷ 0 ∷ 1 ∷ 1 ∷ 0 ∷ []
unfolding run_block run_on_head called head_refused bad_head needless plan_in big fields_of parse bodies body_at bad_from with_plan plan_refused bad_levels bad_factors most_two most_three bad_counts bad_words bad_word bad_sign repeated dependent loses_factor factor_word bad_repeats is_repeats most_readings any among beyond letters combined times some_combination combines_to some bits Σℕ factors_of size two three tab_from run_refused block_number odd_in shared
blocks = refl

-- L7, N10, N1: the last run, one that the plan does not have, and no bytes
run-numbers : run_on_head halves 7 ∷ run_on_head halves 8 ∷ run_on_head [] 0 ∷ [] ≡ 0 ∷ 10 ∷ 1 ∷ []
unfolding run_on_head called head_refused bad_head needless plan_in big fields_of parse bodies body_at bad_from with_plan plan_refused bad_levels bad_factors most_two most_three bad_counts bad_words bad_word bad_sign repeated dependent loses_factor factor_word bad_repeats is_repeats most_readings any among beyond letters combined times some_combination combines_to some bits Σℕ factors_of size two three tab_from run_refused
run-numbers = refl

-- L2
runs-kept : run_high halves 8 99 ∷ run_block halves 8 98 ∷ run_high [] 0 97 ∷ run_block [] 0 96 ∷ [] ≡ 99 ∷ 98 ∷ 97 ∷ 96 ∷ []
unfolding run_high run_block run_on_head called head_refused bad_head needless plan_in big fields_of parse bodies body_at bad_from with_plan plan_refused bad_levels bad_factors most_two most_three bad_counts bad_words bad_word bad_sign repeated dependent loses_factor factor_word bad_repeats is_repeats most_readings any among beyond letters combined times some_combination combines_to some bits Σℕ factors_of size two three tab_from run_refused
runs-kept = refl

-- ---- the alias call

-- X5: "AD reduces to BC, unturned; with sign 1, turned."
to-BC : alias_word halves AD 99 ∷ alias_turned halves AD 99 ∷ alias_word turning AD 99 ∷ alias_turned turning AD 99 ∷ [] ≡ BC ∷ 0 ∷ BC ∷ 1 ∷ []
unfolding alias_word alias_turned alias_on_head called head_refused bad_head needless plan_in big fields_of parse bodies body_at bad_from with_plan plan_refused bad_levels bad_factors most_two most_three bad_counts bad_words bad_word bad_sign repeated dependent loses_factor factor_word bad_repeats is_repeats most_readings any among beyond letters combined times some_combination combines_to some bits Σℕ factors_of size two three tab_from alias_refused base_word turned odd_signs sign_ones
to-BC = refl

-- N10, N1: D, and E, which the plan does not have; a field cut short
alias-numbers : alias_on_head turning 8 ∷ alias_on_head turning 16 ∷ alias_on_head (1 ∷ 0 ∷ 2 ∷ 2 ∷ []) A ∷ [] ≡ 0 ∷ 10 ∷ 1 ∷ []
unfolding alias_on_head called head_refused bad_head needless plan_in big fields_of parse bodies body_at bad_from with_plan plan_refused bad_levels bad_factors most_two most_three bad_counts bad_words bad_word bad_sign repeated dependent loses_factor factor_word bad_repeats is_repeats most_readings any among beyond letters combined times some_combination combines_to some bits Σℕ factors_of size two three tab_from alias_refused
alias-numbers = refl

-- L2
aliases-kept : alias_word turning 16 99 ∷ alias_turned turning 16 98 ∷ alias_word [] A 97 ∷ alias_turned [] A 96 ∷ [] ≡ 99 ∷ 98 ∷ 97 ∷ 96 ∷ []
unfolding alias_word alias_turned alias_on_head called head_refused bad_head needless plan_in big fields_of parse bodies body_at bad_from with_plan plan_refused bad_levels bad_factors most_two most_three bad_counts bad_words bad_word bad_sign repeated dependent loses_factor factor_word bad_repeats is_repeats most_readings any among beyond letters combined times some_combination combines_to some bits Σℕ factors_of size two three tab_from alias_refused
aliases-kept = refl

-- ---- the estimate; 7 stood in its double

abbrev seven : Float
seven = fin false 7 (pos 0)

-- E3, E4, E1: the mean of a total of 36 is 4.5, the difference of A by a total of -4 is 1, and AB is lost: the double stays
values : estimate_double blocked 0 (pos 36) seven ∷ estimate_double blocked A (neg 4) seven ∷ estimate_double blocked AB (pos 0) seven ∷ []
    ≡ fin false 9 (neg 1) ∷ fin false 1 (pos 0) ∷ seven ∷ []
unfolding estimate_double estimate_on_head called head_refused bad_head needless plan_in big fields_of parse bodies body_at bad_from with_plan plan_refused bad_levels bad_factors most_two most_three bad_counts bad_words bad_word bad_sign repeated dependent loses_factor factor_word bad_repeats is_repeats most_readings any among beyond letters combined times some_combination combines_to some bits Σℕ factors_of size two three tab_from is_beyond reading_limit two_reading_limit three_reading_limit estimate_refused exponent_of value_by mean_of difference_of printed_total quotient
values = refl

kinds : estimate_kind blocked 0 (pos 36) 99 ∷ estimate_kind blocked A (neg 4) 99 ∷ estimate_kind blocked AB (pos 0) 99 ∷ [] ≡ 0 ∷ 1 ∷ 2 ∷ []
unfolding estimate_kind estimate_on_head called head_refused bad_head needless plan_in big fields_of parse bodies body_at bad_from with_plan plan_refused bad_levels bad_factors most_two most_three bad_counts bad_words bad_word bad_sign repeated dependent loses_factor factor_word bad_repeats is_repeats most_readings any among beyond letters combined times some_combination combines_to some bits Σℕ factors_of size two three tab_from is_beyond reading_limit two_reading_limit three_reading_limit estimate_refused exponent_of value_by
kinds = refl

-- N10, N12, N1: D, which is no base factor; a total of one more than eight times the limit, of A and of AB, which is lost; no bytes
estimate-numbers : estimate_on_head halves 8 (pos 0) ∷ estimate_on_head blocked A (neg 8_000_001) ∷ estimate_on_head blocked AB (pos 8_000_001)
    ∷ estimate_on_head [] A (pos 0) ∷ []
    ≡ 10 ∷ 12 ∷ 12 ∷ 1 ∷ []
unfolding estimate_on_head called head_refused bad_head needless plan_in big fields_of parse bodies body_at bad_from with_plan plan_refused bad_levels bad_factors most_two most_three bad_counts bad_words bad_word bad_sign repeated dependent loses_factor factor_word bad_repeats is_repeats most_readings any among beyond letters combined times some_combination combines_to some bits Σℕ factors_of size two three tab_from is_beyond reading_limit two_reading_limit three_reading_limit estimate_refused
estimate-numbers = refl

-- L2
kinds_kept : estimate_kind halves 8 (pos 0) 99 ∷ estimate_kind blocked A (neg 8_000_001) 98 ∷ estimate_kind [] A (pos 0) 97 ∷ [] ≡ 99 ∷ 98 ∷ 97 ∷ []
unfolding estimate_kind estimate_on_head called head_refused bad_head needless plan_in big fields_of parse bodies body_at bad_from with_plan plan_refused bad_levels bad_factors most_two most_three bad_counts bad_words bad_word bad_sign repeated dependent loses_factor factor_word bad_repeats is_repeats most_readings any among beyond letters combined times some_combination combines_to some bits Σℕ factors_of size two three tab_from is_beyond reading_limit two_reading_limit three_reading_limit estimate_refused
kinds_kept = refl

values-kept : estimate_double halves 8 (pos 0) seven ∷ estimate_double blocked A (neg 8_000_001) seven ∷ estimate_double [] A (pos 0) seven ∷ []
    ≡ seven ∷ seven ∷ seven ∷ []
unfolding estimate_double estimate_on_head called head_refused bad_head needless plan_in big fields_of parse bodies body_at bad_from with_plan plan_refused bad_levels bad_factors most_two most_three bad_counts bad_words bad_word bad_sign repeated dependent loses_factor factor_word bad_repeats is_repeats most_readings any among beyond letters combined times some_combination combines_to some bits Σℕ factors_of size two three tab_from is_beyond reading_limit two_reading_limit three_reading_limit estimate_refused
values-kept = refl

-- ---- the blocking call

-- R17, L13: three factors with one word and with two; too few places, and six factors, where the 9 that stood there stays
lists : blockings_count 3 1 4 9 ∷ blockings_count 3 2 6 9 ∷ blockings_count 3 1 3 9 ∷ blockings_count 6 1 100 9 ∷ [] ≡ 4 ∷ 3 ∷ 9 ∷ 9 ∷ []
unfolding blockings_count blockings_refused bad_factor_count bad_word_count blockings_of lists_of is_blocking strictly_rising those flatten tab_from plan_refused bad_levels bad_factors most_two most_three bad_counts bad_words bad_word bad_sign repeated dependent loses_factor factor_word any among beyond letters combined times some_combination combines_to some bits Σℕ bad_repeats is_repeats most_readings factors_of size two
lists = refl
