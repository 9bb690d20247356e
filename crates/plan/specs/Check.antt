-- What section 9 of the rules refuses of a plan: refusals 2 to 8, and 16.
--
--   bad_levels, bad_factors, bad_counts          refusals 2, 3 and 4
--   bad_word, bad_sign, bad_words                refusal 5; refusal 6 is `repeated` of words
--   used_digits, lowest_digit, bad_digits        refusal 5 of a three-level plan: the digit rule
--   dependent                                    refusal 7
--   factor_word, loses_factor                    refusal 8
--   bad_repeats                                  refusal 16
--   word_refusals, two_to_eight, plan_refusals   these refusals
--   plan_refused                                 the first number that applies to a plan, 0 where it is accepted
--   with_plan p refusals                         the first number of a call that takes a plan and has further refusals of its own
--   run_count p, reading_count p                 the number of runs, and that of readings, for any plan
--   spacing_at p f                               the spacing of the factor at position f, for any plan
--   used_row p                                   the row of the letters that a three-level plan's block word uses, for any plan
--   confounded_accepted p w                      whether the effect of w is confounded, for any plan
--   check_outcome                                the cases of the check's answer
use Rattle.std.specs.Prelude.{Result, Bool, false, not, cond, ◌||◌, List, [], ◌∷◌, ◌++◌, ℕ, zero, suc, ◌+◌, ◌*◌, ◌/◌, ◌%◌, ◌^◌, eqb, leb, ltb}
use Rattle.contrasts.specs.Limits.{most_two, most_three, most_added, most_blocks, is_repeats, most_readings}
use Rattle.contrasts.specs.Passes.{spacing}
use Rattle.plan.specs.declared.types.Plan.{Plan}
use Rattle.plan.specs.declared.refusals.Refusal as refusals
use Rattle.plan.specs.Refusals.{outcome_by}
use Rattle.plan.specs.Outcome.{Refusal, refusal, lowest, Outcome}
use Rattle.words.specs.Words.{letters, beyond, any, among, repeated}
use Rattle.plan.specs.Plan.{added_words, added_signs, block_words, three_words, word_row, factors_of, some_combination, combines_to, confounded_in, runs_of}

-- ---- the conditions

-- N2: "levels other than 2 or 3"; P1: "levels (2 or 3)"
unfoldable pub bad_levels : ℕ → Bool
bad_levels levels = not (eqb levels 2 || eqb levels 3)

-- N3: "k out of range"; P2: "1 to 10 at two levels, 1 to 6 at three"
unfoldable pub bad_factors : ℕ → ℕ → Bool
bad_factors levels k = eqb k 0 || cond (eqb levels 2) (ltb most_two k) (ltb most_three k)

-- N4: "over 6 added, over 4 block words"; "at three levels: 4 for an added factor or a second block word"
-- P3: "up to 6 added factors and up to 4 block words"; P14: "a three-level plan may now have one block word"
unfoldable pub bad_counts : ℕ → ℕ → ℕ → Bool
bad_counts levels added blocks = ltb most_added added || (ltb most_blocks blocks || cond (eqb levels 3) (ltb 0 added || ltb 1 blocks) false)

-- N5: "letter beyond k, added word under two letters, sign over 1, empty block word"; an empty word is one under one letter
-- P7: "a word of two or more letters"; R3: "A block word is not empty."
unfoldable pub bad_word : ℕ → ℕ → ℕ → Bool
bad_word k least w = beyond k w || ltb (letters w) least

-- N5: "sign over 1"; P7: "a sign, 0 or 1"
unfoldable pub bad_sign : ℕ → Bool
bad_sign s = ltb 1 s

-- how many of the k digits of w to the base 3 are not zero
unfoldable pub used_digits : ℕ → ℕ → ℕ
used_digits zero w = 0
used_digits (suc k) w = cond (eqb (w % 3) 0) 0 1 + used_digits k (w / 3)

-- the first of them, from A's on, that is not zero, and 0 where all are
unfoldable pub lowest_digit : ℕ → ℕ → ℕ
lowest_digit zero w = 0
lowest_digit (suc k) w = cond (eqb (w % 3) 0) (lowest_digit k (w / 3)) (w % 3)

-- N5, P15: it breaks the digit rule, "a number in base 3 of k digits, A lowest, with at least two digits not zero and the lowest such digit
-- equal to 1"
unfoldable pub bad_digits : ℕ → ℕ → Bool
bad_digits k w = leb (3 ^ k) w || (ltb (used_digits k w) 2 || not (eqb (lowest_digit k w) 1))

-- N5: at three levels "5 only for a word that breaks the digit rule": there are no added factors then, and no block words that are sets of
-- letters, and the numbers are the block words; at two levels there are no numbers
unfoldable pub bad_words : ℕ → List ℕ → List ℕ → List ℕ → List ℕ → Bool
bad_words k words signs blocks numbers = any (bad_word k 2) words || (any bad_sign signs || (any (bad_word k 1) blocks || any (bad_digits k) numbers))

-- N6: "two added factors with one word" is `repeated`

-- N7: "some one or more block words combine to the empty word"
unfoldable pub dependent : List ℕ → Bool
dependent blocks = combines_to 0 blocks

-- N8: "a confounded effect is one letter or an added factor's word"; these are the words of the plan's factors, base and added
unfoldable pub factor_word : ℕ → List ℕ → Bool
factor_word w words = eqb (letters w) 1 || among w words

-- N8
unfoldable pub loses_factor : List ℕ → List ℕ → Bool
loses_factor words blocks = some_combination blocks (λ w. factor_word w words)

-- N16: "r not allowed or N times r too large", of n runs
unfoldable pub bad_repeats : ℕ → ℕ → Bool
bad_repeats n r = not (is_repeats r) || ltb most_readings (n * r)

-- N5 to N8: the refusals on the words, for themselves; at three levels there is "no 7 or 8", since they are about sets of letters, and no 6
abbrev pub word_refusals : ℕ → List ℕ → List ℕ → List ℕ → List ℕ → List Refusal
word_refusals k words signs blocks numbers =
    refusal 5 (bad_words k words signs blocks numbers)
    ∷ refusal 6 (repeated words)
    ∷ refusal 7 (dependent blocks)
    ∷ refusal 8 (loses_factor words blocks)
    ∷ []

-- L3: "The plan check gives 2 to 8"
abbrev pub two_to_eight : Plan → List Refusal
two_to_eight p =
    refusal 2 (bad_levels p.levels)
    ∷ refusal 3 (bad_factors p.levels p.k)
    ∷ refusal 4 (bad_counts p.levels p.added p.blocks)
    ∷ word_refusals p.k (added_words p) (added_signs p) (block_words p) (three_words p)

-- L12: "16 [..] after 8"
abbrev pub plan_refusals : Plan → List Refusal
plan_refusals p = two_to_eight p ++ (refusal 16 (bad_repeats (runs_of p) p.repeats) ∷ [])

-- L1, L3
unfoldable pub plan_refused : Plan → ℕ
plan_refused p = lowest (plan_refusals p)

-- L4: "every call that takes a plan or a sheet gives these too": the plan's own number, or where that is 0 the first of further refusals
unfoldable pub with_plan : Plan → List Refusal → ℕ
with_plan p further = cond (eqb (plan_refused p) 0) (lowest further) (plan_refused p)

-- ---- for the crates above, of any plan

-- whether the effect of a word is confounded; no effect of a plan that is refused
unfoldable pub confounded_accepted : Plan → ℕ → Bool
confounded_accepted p w = cond (eqb (plan_refused p) 0) (confounded_in p w) false

-- the number of runs, and 0 where levels or k are out of range
unfoldable pub run_count : Plan → ℕ
run_count p = cond (bad_levels p.levels || bad_factors p.levels p.k) 0 (runs_of p)

-- the number of readings, and 0 where there are no runs
unfoldable pub reading_count : Plan → ℕ
reading_count p = run_count p * p.repeats

-- T7: how far apart the values of the factor at position f lie, "levels to the power f", and 0 where there is none or `run_count` is 0
unfoldable pub spacing_at : Plan → ℕ → ℕ
spacing_at p f = cond (bad_levels p.levels || bad_factors p.levels p.k) 0 (cond (leb p.k f) 0 (spacing (factors_of p) f))

-- V18: `word_row`, and 0 where k is beyond every three-level plan's
unfoldable pub used_row : Plan → ℕ
used_row p = cond (ltb most_three p.k) 0 (word_row p)

-- ---- the answer

-- F12: an accepted plan has no values
abbrev pub check_outcome : Result Unit refusals.Refusal → Outcome Unit
check_outcome answer = outcome_by (λ v. v) answer
