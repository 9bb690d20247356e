-- What a plan says: its factors, its words and its runs; which effects are confounded.
--
--   whole_plan levels k r                       the plan of k factors of so many levels, with no added factors and no block words, its runs
--                                               made r times
--   added_words p, added_signs p                the words and signs that the plan's counts admit
--   word_count p, block_words p                 its block words that are sets of letters: those of two levels
--   number_count p, three_words p               its block words that are numbers to the base 3: those of three levels
--   three_word p                                the block word of a three-level plan, 0 where there is none
--   factors_of p                                its base factors, A first
--   runs_of p                                   how many runs it has
--   all_readings p                              how many readings, with every run made as often as the plan says
--   run_sums_of p xs                            the sum of each run's readings
--   denominator_of p, divisor_of p e             the table's denominator, and the divisor of an effect
--   all_letters p                               how many factors it has, base and added
--   some_combination ws f                       f holds of a combination of one or more of the words
--   combines_to w ws                            one of those combinations is w
--   confounded_in p w                           the effect of the word w is confounded
--   word_row p                                  the row of the letters that the block word of a three-level plan uses
use Rattle.std.specs.Prelude.{Bool, cond, ◌&&◌, List, ℕ, ◌+◌, ◌*◌, ◌^◌, eqb, ltb, ℤ, length, take, get_or, replicate}
use Rattle.algebra.specs.Search.{some}
use Rattle.contrasts.specs.Factor.{Factor}
use Rattle.contrasts.proofs.Factors.{of_levels}
use Rattle.contrasts.specs.Rows.{row_of}
use Rattle.contrasts.specs.Totals.{size, divisor*, denominator}
use Rattle.contrasts.specs.Columns.{run_sums_in}
use Rattle.plan.specs.declared.types.Plan.{Plan}
use Rattle.words.specs.Words.{combined}

abbrev pub whole_plan : ℕ → ℕ → ℕ → Plan
whole_plan levels k r = record {
  levels = levels;
  k = k;
  added = 0;
  words = replicate 6 0;
  signs = replicate 6 0;
  blocks = 0;
  blockwords = replicate 4 0;
  repeats = r;
}

-- P10: "Places beyond a plan's counts are ignored"
abbrev pub added_words : Plan → List ℕ
added_words p = take p.added p.words

-- P10
abbrev pub added_signs : Plan → List ℕ
added_signs p = take p.added p.signs

-- P6, P14: a word is a set of base letters, but for the block word of a three-level plan, which "is a number in base 3"
abbrev pub word_count : Plan → ℕ
word_count p = cond (eqb p.levels 3) 0 p.blocks

-- P10
abbrev pub block_words : Plan → List ℕ
block_words p = take (word_count p) p.blockwords

-- P14: "a three-level plan may now have one block word"
abbrev pub number_count : Plan → ℕ
number_count p = cond (eqb p.levels 3) p.blocks 0

-- P10
abbrev pub three_words : Plan → List ℕ
three_words p = take (number_count p) p.blockwords

-- P14, P15: 0 breaks the digit rule, so it is no word of an accepted plan
abbrev pub three_word : Plan → ℕ
three_word p = get_or (three_words p) 0 0

-- P2: "k base factors", each of two levels, or each of three
unfoldable pub factors_of : Plan → List Factor
factors_of p = replicate p.k (of_levels p.levels)

-- R1: "There are N runs: levels to the power k."
abbrev pub runs_of : Plan → ℕ
runs_of p = size (factors_of p)

-- R10: "N times r" readings
abbrev pub all_readings : Plan → ℕ
all_readings p = runs_of p * p.repeats

-- T29: "passes work on the run sums"
abbrev pub run_sums_of : Plan → List ℤ → List ℤ
run_sums_of p xs = run_sums_in (runs_of p) p.repeats xs

-- T30: "The denominator, all divisors [..] are multiplied by r."
abbrev pub denominator_of : Plan → ℕ
denominator_of p = p.repeats * denominator (factors_of p)

-- T30
abbrev pub divisor_of : Plan → ℕ → ℕ
divisor_of p e = p.repeats * divisor* (factors_of p) e

-- P5: "Base factors have letters from A on, added factors the letters that follow."
abbrev pub all_letters : Plan → ℕ
all_letters p = p.k + length (added_words p)

-- R6: "combinations of one or more block words": the choices of one or more of n words are the numbers from 1 to 2 ^ n - 1. Of AD and ABC
-- the choice 1 is AD, 2 is ABC, and 3, both, combines to BCD; 0 takes none.
unfoldable pub some_combination : List ℕ → (ℕ → Bool) → Bool
some_combination ws f = some (2 ^ length ws) (λ c. ltb 0 c && f (combined 0 c ws))

-- one or more of the words combine to w
unfoldable pub combines_to : ℕ → List ℕ → Bool
combines_to w ws = some_combination ws (λ v. eqb v w)

-- R6: "The confounded effects are all combinations of one or more block words."
abbrev pub confounded_in : Plan → ℕ → Bool
confounded_in p w = combines_to w (block_words p)

-- V18: "the row of the letters used": those whose digit in the word is not 0, as for the digits of an effect
abbrev pub word_row : Plan → ℕ
word_row p = row_of (factors_of p) (three_word p)
