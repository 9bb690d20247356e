-- The small inputs of the table of refusals, 2 to 8 and 16, and the starred run on block words AD and ABC, computed over the definitions.
--
--   A, AB, C, BC, ABC, AD, CD, BCD      words by their letters
--   plan levels k words signs blocks    a plan with these words, whose other places hold 0 (`filled`), and whose runs are made once
--   made r p                            the plan p with its runs made r times
--   small-inputs, other-refused         the numbers of plans that are refused
--   repeats-refused                     plans that are refused for their repeats, or for more
--   three-refused, three-accepted       three-level plans with block words
--   digits-of-words                     the digit rule with k = 3, of all numbers below 40
--   all-accepted, BCD-lost              plans that are accepted, and the confounded effects of one
--   by-choice                           what the choices of some words combine to
--   of-any-plan                         how many runs there are, and how far apart a factor's values lie, for any plan
--   lower-first, sixteen-between        of the numbers 1 to 13 the lower comes first in the order of checks; 16 comes between 8 and 9
--   twenty-one-next                     and 21 next after it
use Rattle.std.specs.Prelude.{◌≡◌, refl, true, not, ◌||◌, List, [], ◌∷◌, ◌++◌, map, ℕ, suc, ◌-◌, eqb, ltb, length, replicate}
use Rattle.algebra.specs.Naturals.{Σℕ}
use Rattle.algebra.specs.Tests.{every}
use Rattle.algebra.specs.Bits.{bits}
use Rattle.algebra.specs.Search.{some}
use Rattle.algebra.specs.Tab.{tab, tab_from}
use Rattle.contrasts.specs.Limits.{most_two, most_three, is_repeats, most_readings}
use Rattle.contrasts.proofs.Factors.{two, three}
use Rattle.contrasts.specs.Totals.{size}
use Rattle.words.specs.Words.{letters, beyond, times, combined, any, among, repeated}
use Rattle.plan.specs.declared.types.Plan.{Plan}
use Rattle.plan.specs.Plan.{factors_of, some_combination, combines_to, confounded_in}
use Rattle.plan.specs.Outcome.{rank}
use Rattle.plan.specs.Check.{bad_levels, bad_factors, bad_counts, bad_word, bad_sign, bad_digits, used_digits, lowest_digit, bad_words, dependent, factor_word, loses_factor, bad_repeats, plan_refused, run_count, reading_count, spacing_at}

-- ---- words by their letters

abbrev pub A : ℕ
A = 1

abbrev pub AB : ℕ
AB = 3

abbrev pub C : ℕ
C = 4

abbrev pub BC : ℕ
BC = 6

abbrev pub ABC : ℕ
ABC = 7

abbrev pub AD : ℕ
AD = 9

abbrev pub CD : ℕ
CD = 12

abbrev pub BCD : ℕ
BCD = 14

abbrev pub filled : ℕ → List ℕ → List ℕ
filled n ws = ws ++ replicate (n - length ws) 0

abbrev pub plan : ℕ → ℕ → List ℕ → List ℕ → List ℕ → Plan
plan levels k words signs blocks = record {
  levels = levels;
  k = k;
  added = length words;
  words = filled 6 words;
  signs = filled 6 signs;
  blocks = length blocks;
  blockwords = filled 4 blocks;
  repeats = 1;
}

abbrev pub made : ℕ → Plan → Plan
made r p = record {
  levels = p.levels;
  k = p.k;
  added = p.added;
  words = p.words;
  signs = p.signs;
  blocks = p.blocks;
  blockwords = p.blockwords;
  repeats = r;
}

-- ---- refusals

-- N2 to N8: the small inputs, in the order of the table; X8: those of refusals 7 and 8 "with k = 3"
abbrev small_inputs : List Plan
small_inputs =
    plan 4 1 [] [] []
    ∷ plan 3 7 [] [] []
    ∷ plan 3 2 [] [] (4 ∷ 7 ∷ [])
    ∷ plan 2 2 [] [] (C ∷ [])
    ∷ plan 2 3 (AB ∷ AB ∷ []) (0 ∷ 0 ∷ []) []
    ∷ plan 2 3 [] [] (AB ∷ AB ∷ [])
    ∷ plan 2 3 [] [] (AB ∷ ABC ∷ [])
    ∷ []

small-inputs : map plan_refused small_inputs ≡ 2 ∷ 3 ∷ 4 ∷ 5 ∷ 6 ∷ 7 ∷ 8 ∷ []
unfolding plan_refused bad_levels bad_factors most_two most_three bad_counts bad_words bad_word bad_sign bad_digits used_digits lowest_digit repeated dependent loses_factor factor_word any among beyond letters combined times some_combination combines_to some bits Σℕ
small-inputs = refl

-- N3 to N8, L1: other ways into a refusal, and plans to which two refusals apply, of which the lower counts
abbrev others : List Plan
others =
    -- N3: no factor; eleven at two levels
    plan 2 0 [] [] []
    ∷ plan 2 11 [] [] []
    -- N4: seven added factors; five block words
    ∷ plan 2 4 (replicate 7 AB) (replicate 7 0) []
    ∷ plan 2 4 [] [] (replicate 5 AB)
    -- N5: an added word of one letter, a letter of it beyond k, a sign over 1, an empty block word
    ∷ plan 2 3 (A ∷ []) (0 ∷ []) []
    ∷ plan 2 3 (AD ∷ []) (0 ∷ []) []
    ∷ plan 2 3 (AB ∷ []) (2 ∷ []) []
    ∷ plan 2 3 [] [] (0 ∷ [])
    -- N8: a confounded effect is an added factor's word
    ∷ plan 2 3 (BC ∷ []) (0 ∷ []) (BC ∷ [])
    -- L1: 4 and 5 at three levels, 5 and 7, 6 and 8
    ∷ plan 3 2 [] [] (0 ∷ 0 ∷ [])
    ∷ plan 2 2 [] [] (C ∷ C ∷ [])
    ∷ plan 2 3 (AB ∷ AB ∷ []) (0 ∷ 0 ∷ []) (A ∷ [])
    ∷ []

other-refused : map plan_refused others ≡ 3 ∷ 3 ∷ 4 ∷ 4 ∷ 5 ∷ 5 ∷ 5 ∷ 5 ∷ 8 ∷ 4 ∷ 5 ∷ 6 ∷ []
unfolding plan_refused bad_levels bad_factors most_two most_three bad_counts bad_words bad_word bad_sign bad_digits used_digits lowest_digit repeated dependent loses_factor factor_word any among beyond letters combined times some_combination combines_to some bits Σℕ
other-refused = refl

-- N16, L12: runs made 0, 3, 16 and 255 times; too many readings, at two levels and at three; and plans to which 2, 3 and 8 apply too, which
-- come before it
abbrev badly_repeated : List Plan
badly_repeated =
    made 0 (plan 2 2 [] [] [])
    ∷ made 3 (plan 2 2 [] [] [])
    ∷ made 16 (plan 2 2 [] [] [])
    ∷ made 255 (plan 3 2 [] [] [])
    ∷ made 2 (plan 2 10 [] [] [])
    ∷ made 8 (plan 3 5 [] [] [])
    ∷ made 3 (plan 4 1 [] [] [])
    ∷ made 3 (plan 3 7 [] [] [])
    ∷ made 3 (plan 2 3 [] [] (AB ∷ ABC ∷ []))
    ∷ []

repeats-refused : map plan_refused badly_repeated ≡ 16 ∷ 16 ∷ 16 ∷ 16 ∷ 16 ∷ 16 ∷ 2 ∷ 3 ∷ 8 ∷ []
unfolding plan_refused bad_levels bad_factors most_two most_three bad_counts bad_words bad_word bad_sign bad_digits used_digits lowest_digit repeated dependent loses_factor factor_word any among beyond letters combined times some_combination combines_to some bits Σℕ bad_repeats is_repeats most_readings factors_of size two three
repeats-refused = refl

-- P14, P15, N4, N5: at three levels an added factor and a second block word, both of which get 4; words that break the digit rule, of k = 2:
-- 0, 1, 2, 3 and 6 use fewer than two letters, 5 and 8 have 2 for their lowest digit, 9 has three digits; AB with k = 1. 16 comes after 5.
abbrev three_levels : List Plan
three_levels =
    plan 3 3 (AB ∷ []) (0 ∷ []) []
    ∷ plan 3 3 [] [] (13 ∷ 22 ∷ [])
    ∷ made 3 (plan 3 1 [] [] (4 ∷ []))
    ∷ map (λ w. plan 3 2 [] [] (w ∷ [])) (0 ∷ 1 ∷ 2 ∷ 3 ∷ 5 ∷ 6 ∷ 8 ∷ 9 ∷ [])

three-refused : map plan_refused three_levels ≡ 4 ∷ 4 ∷ 5 ∷ replicate 8 5
unfolding plan_refused bad_levels bad_factors most_two most_three bad_counts bad_words bad_word bad_sign bad_digits used_digits lowest_digit repeated dependent loses_factor factor_word any among beyond letters combined times some_combination combines_to some bits Σℕ
three-refused = refl

-- P15: of k = 2 the words AB and AB2, of k = 3 these and eight more; none is refused for what it would be as a set of letters: 4 is C, a letter by
-- itself, and 13 is ACD, which has a letter beyond k = 3
three-accepted : map plan_refused (map (λ w. plan 3 3 [] [] (w ∷ [])) (4 ∷ 7 ∷ 10 ∷ 12 ∷ 13 ∷ 16 ∷ 19 ∷ 21 ∷ 22 ∷ 25 ∷ [])) ≡ replicate 10 0
unfolding plan_refused bad_levels bad_factors most_two most_three bad_counts bad_words bad_word bad_sign bad_digits used_digits lowest_digit repeated dependent loses_factor factor_word any among beyond letters combined times some_combination combines_to some bits Σℕ bad_repeats is_repeats most_readings factors_of size two three
three-accepted = refl

-- P15: of the numbers below 40 just these words are of three digits and keep the rule
digits-of-words : tab 40 (bad_digits 3) ≡ tab 40 (λ w. not (among w (4 ∷ 7 ∷ 10 ∷ 12 ∷ 13 ∷ 16 ∷ 19 ∷ 21 ∷ 22 ∷ 25 ∷ [])))
unfolding bad_digits used_digits lowest_digit among any some tab_from
digits-of-words = refl

-- ---- accepted plans

-- X7: "k = 4, block words AD, ABC: accepted, BCD confounded too."; P2: the largest plans of both level counts;
-- X5: D = ABC with either sign; P12, P13: the largest plans whose runs are made eight and four times
abbrev accepted_plans : List Plan
accepted_plans =
    plan 2 4 [] [] (AD ∷ ABC ∷ [])
    ∷ plan 2 10 [] [] []
    ∷ plan 3 6 [] [] []
    ∷ plan 2 3 (ABC ∷ []) (0 ∷ []) []
    ∷ plan 2 3 (ABC ∷ []) (1 ∷ []) []
    ∷ made 8 (plan 2 7 [] [] [])
    ∷ made 4 (plan 3 5 [] [] [])
    ∷ []

all-accepted : map plan_refused accepted_plans ≡ 0 ∷ 0 ∷ 0 ∷ 0 ∷ 0 ∷ 0 ∷ 0 ∷ []
unfolding plan_refused bad_levels bad_factors most_two most_three bad_counts bad_words bad_word bad_sign bad_digits used_digits lowest_digit repeated dependent loses_factor factor_word any among beyond letters combined times some_combination combines_to some bits Σℕ bad_repeats is_repeats most_readings factors_of size two three
all-accepted = refl

-- X7: of the sixteen effects of that plan just AD, ABC and BCD are confounded
BCD-lost : tab 16 (confounded_in (plan 2 4 [] [] (AD ∷ ABC ∷ []))) ≡ tab 16 (λ w. eqb w AD || (eqb w ABC || eqb w BCD))
unfolding combines_to some_combination combined times some bits Σℕ tab_from
BCD-lost = refl

-- ---- choices

-- R5: the four choices of AD and ABC: none, each by itself, and both; and of AB, BC, CD the choice 5, the first and the third
by-choice : tab 4 (λ c. combined 0 c (AD ∷ ABC ∷ [])) ++ (combined 0 5 (AB ∷ BC ∷ CD ∷ []) ∷ []) ≡ 0 ∷ AD ∷ ABC ∷ BCD ∷ 15 ∷ []
unfolding combined times bits Σℕ tab_from
by-choice = refl

-- ---- for the crates above, of any plan

-- three two-level factors, two three-level ones, levels 4; three two-level factors with four readings a run; the third factor of three at three levels, and a fourth, which is not there
of-any-plan : run_count (plan 2 3 [] [] [])
    ∷ run_count (plan 3 2 [] [] [])
    ∷ run_count (plan 4 2 [] [] [])
    ∷ reading_count (made 4 (plan 2 3 [] [] []))
    ∷ spacing_at (plan 3 3 [] [] []) 2
    ∷ spacing_at (plan 3 3 [] [] []) 3
    ∷ []
    ≡ 8 ∷ 9 ∷ 0 ∷ 32 ∷ 9 ∷ 0 ∷ []
unfolding run_count reading_count spacing_at bad_levels bad_factors most_two most_three factors_of size two three
of-any-plan = refl

-- ---- the order of checks

-- L1, L12: of any two of the numbers 1 to 13 the lower comes first, so that of these the first that applies is the lowest
lower-first : every 13 (λ i. every i (λ j. ltb (rank (suc j)) (rank (suc i)))) ≡ true
unfolding every rank
lower-first = refl

-- L12: 16 comes after 8 and before 9
sixteen-between : (ltb (rank 8) (rank 16) ≡ true) × (ltb (rank 16) (rank 9) ≡ true)
unfolding rank
sixteen-between = (refl, refl)

-- L12: 21 comes after 16 and before 9
twenty-one-next : (rank 21 ≡ suc (rank 16)) × (rank 9 ≡ suc (rank 21))
unfolding rank
twenty-one-next = (refl, refl)
