-- Small heads, computed over the definitions.
--
--   one, added, block, repeats     fields: levels 2 and k; the word ABC with a sign; the block word AB; how often runs are made
--   heads, head-numbers            heads that hold plans, accepted and refused, and their numbers
--   bad, bad-numbers               bytes that are no head: each is refused with 1
--   rich, rich-plan                a head with a field of each tag, and its plan
--   in_blocks, three-number        a three-level head with the block word A·B·C², which is 22
--   sheets, head-lengths           two sheets, and how many of their bytes are their head
--   calls, lefts                   a call on a plan that is accepted, on one that is refused, and on bytes that are no head
use Rattle.std.specs.Prelude.{◌≡◌, refl, List, [], ◌∷◌, ◌++◌, map, ℕ, ◌+◌, replicate}
use Rattle.algebra.specs.Bits.{bits}
use Rattle.algebra.specs.Naturals.{Σℕ}
use Rattle.algebra.specs.Search.{some}
use Rattle.algebra.specs.Tab.{tab_from}
use Rattle.contrasts.specs.Limits.{most_two, most_three, is_repeats, most_readings}
use Rattle.contrasts.proofs.Factors.{two, three}
use Rattle.contrasts.specs.Totals.{size}
use Rattle.words.specs.Words.{letters, beyond, times, combined, any, among, repeated}
use Rattle.plan.specs.Check.{bad_levels, bad_factors, bad_counts, bad_word, bad_sign, bad_digits, used_digits, lowest_digit, bad_words, dependent, factor_word, loses_factor, bad_repeats, plan_refused, with_plan}
use Rattle.plan.specs.Plan.{factors_of, some_combination, combines_to}
use Rattle.numerals.specs.Numbers.{big}
use Rattle.fields.specs.Fields.{parse, fields_of, bodies, body_at}
use Rattle.fields.specs.Tags.{bad_from}
use Rattle.contents.specs.Contents.{needless, plan_in}
use Rattle.heads.specs.Heads.{bad_head, head_plan, head_refused, head_length, called, leaves}

abbrev one : ℕ → List ℕ
one k = 1 ∷ 0 ∷ 2 ∷ 2 ∷ k ∷ []

abbrev added : ℕ → List ℕ
added sign = 2 ∷ 0 ∷ 3 ∷ 0 ∷ 7 ∷ sign ∷ []

abbrev block : List ℕ
block = 3 ∷ 0 ∷ 2 ∷ 0 ∷ 3 ∷ []

abbrev repeats : ℕ → List ℕ
repeats r = 6 ∷ 0 ∷ 1 ∷ r ∷ []

-- S4 to S6, S14: three plans that are accepted; N3; N5: a sign of 2; N16: r = 3, and a field 6 that holds 1; L12: 3 before 16
abbrev heads : List (List ℕ)
heads =
    one 2
    ∷ (one 3 ++ added 0)
    ∷ (one 3 ++ added 1 ++ block ++ repeats 2)
    ∷ one 0
    ∷ (one 3 ++ added 2)
    ∷ (one 3 ++ repeats 3)
    ∷ (one 3 ++ repeats 1)
    ∷ (one 11 ++ repeats 1)
    ∷ []

head-numbers : map head_refused heads ≡ 0 ∷ 0 ∷ 0 ∷ 3 ∷ 5 ∷ 16 ∷ 16 ∷ 3 ∷ []
unfolding head_refused bad_head needless plan_in big fields_of parse bodies body_at bad_from with_plan plan_refused bad_levels bad_factors most_two most_three bad_counts bad_words bad_word bad_sign bad_digits used_digits lowest_digit repeated dependent loses_factor factor_word bad_repeats is_repeats most_readings any among beyond letters combined times some_combination combines_to some bits Σℕ factors_of size two three tab_from
head-numbers = refl

-- N1: no bytes; a field cut short; a tag that falls, and one that is unknown; tag 1 twice, and absent; tag 6 twice; wrong lengths of fields 1 and
-- 6; what a head has not: a tag 4, a tag 4 and a tag 5, a tag 5 alone
abbrev bad : List (List ℕ)
bad =
    []
    ∷ (one 3 ++ (2 ∷ 0 ∷ 3 ∷ 0 ∷ 7 ∷ []))
    ∷ (one 3 ++ block ++ added 0)
    ∷ (one 3 ++ (9 ∷ 0 ∷ 0 ∷ []))
    ∷ (one 3 ++ one 3)
    ∷ added 0
    ∷ (one 3 ++ repeats 2 ++ repeats 2)
    ∷ (1 ∷ 0 ∷ 1 ∷ 2 ∷ [])
    ∷ (one 3 ++ (6 ∷ 0 ∷ 0 ∷ []))
    ∷ (one 1 ++ (4 ∷ 0 ∷ 4 ∷ 0 ∷ 0 ∷ 0 ∷ 3 ∷ []))
    ∷ (one 1 ++ (4 ∷ 0 ∷ 0 ∷ 5 ∷ 0 ∷ 2 ∷ 0 ∷ 0 ∷ []))
    ∷ (one 1 ++ (5 ∷ 0 ∷ 0 ∷ []))
    ∷ []

bad-numbers : map head_refused bad ≡ replicate 12 1
unfolding head_refused bad_head big fields_of parse bodies body_at bad_from
bad-numbers = refl

-- S4 to S6, S14: levels and k, the word with its sign, the block word, the repeats; P11: 0 beyond the counts
abbrev rich : List ℕ
rich = one 3 ++ added 1 ++ block ++ repeats 2

rich-plan : head_plan rich
    ≡ record {
      levels = 2;
      k = 3;
      added = 1;
      words = 7 ∷ replicate 5 0;
      signs = 1 ∷ replicate 5 0;
      blocks = 1;
      blockwords = 3 ∷ replicate 3 0;
      repeats = 2;
    }
unfolding plan_in big fields_of parse bodies body_at tab_from
rich-plan = refl

-- P14, P15
abbrev in_blocks : List ℕ
in_blocks = (1 ∷ 0 ∷ 2 ∷ 3 ∷ 3 ∷ []) ++ (3 ∷ 0 ∷ 2 ∷ 0 ∷ 22 ∷ [])

three-number : head_refused in_blocks ≡ 0
unfolding head_refused bad_head needless plan_in big fields_of parse bodies body_at bad_from with_plan plan_refused bad_levels bad_factors most_two most_three bad_counts bad_words bad_word bad_sign bad_digits used_digits lowest_digit repeated dependent loses_factor factor_word bad_repeats is_repeats most_readings any among beyond letters combined times some_combination combines_to some bits Σℕ factors_of size two three tab_from
three-number = refl

-- S3: the five bytes of levels and k before two readings and two marks; the fields of the richest head before an empty field 4 and one mark
abbrev sheets : List (List ℕ)
sheets =
    (one 1 ++ (4 ∷ 0 ∷ 8 ∷ 0 ∷ 0 ∷ 0 ∷ 3 ∷ 0 ∷ 0 ∷ 0 ∷ 5 ∷ 5 ∷ 0 ∷ 2 ∷ 0 ∷ 0 ∷ []))
    ∷ (rich ++ (4 ∷ 0 ∷ 0 ∷ 5 ∷ 0 ∷ 1 ∷ 0 ∷ []))
    ∷ []

head-lengths : map head_length sheets ≡ 5 ∷ 20 ∷ []
unfolding head_length big fields_of parse bodies body_at
head-lengths = refl

-- L1, L2: a call whose number is k for a plan, and which leaves 10 + k; N16, L12: a needless field before the call's own number
calls : map (λ head. called head (λ p. p.k)) (one 2 ∷ one 0 ∷ [] ∷ (one 3 ++ repeats 1) ∷ []) ≡ 2 ∷ 3 ∷ 1 ∷ 16 ∷ []
unfolding called head_refused bad_head needless plan_in big fields_of parse bodies body_at bad_from with_plan plan_refused bad_levels bad_factors most_two most_three bad_counts bad_words bad_word bad_sign repeated dependent loses_factor factor_word bad_repeats is_repeats most_readings any among beyond letters combined times some_combination combines_to some bits Σℕ factors_of size two three tab_from
calls = refl

lefts : map (λ head. leaves head (λ p. 10 + p.k) 7) (one 2 ∷ one 0 ∷ [] ∷ []) ≡ 12 ∷ 7 ∷ 7 ∷ []
unfolding leaves head_refused bad_head needless plan_in big fields_of parse bodies body_at bad_from with_plan plan_refused bad_levels bad_factors most_two most_three bad_counts bad_words bad_word bad_sign repeated dependent loses_factor factor_word bad_repeats is_repeats most_readings any among beyond letters combined times some_combination combines_to some bits Σℕ factors_of size two three tab_from
lefts = refl
