-- Every way to block a small plan.
--
--   lists_of k b            all lists of b words of the first k letters, the empty word too, in rising order of first, second and third word
--   strictly_rising ws     each word is below the next
--   blocked_plan k ws      the plan of two levels with no added factor that has the block words ws
--   is_blocking k ws       the words rise, and the plan check accepts that plan
--   blockings_of k b       the lists of b words of which that holds
--   blocking_words k b     their words, one after the other
--   bad_factor_count, bad_word_count              refusals 3 and 17
--   blockings_refusals k b room             the refusals of the call
--   blockings_refused, blockings_column     the first number that applies, 0 where the lists are written, and the column at exit
--   blockings_outcome      the cases of the call's answer
use Rattle.std.specs.Prelude.{Result, Bool, not, ◌&&◌, ◌||◌, ℕ, zero, suc, ◌+◌, ◌-◌, ◌^◌, eqb, leb, ltb, length, get_or, drop, replicate}
use mathlib.Core.List.{List, [], ◌∷◌, ◌++◌, map, flatten}
use Rattle.algebra.specs.Search.{some}
use Rattle.algebra.specs.Tab.{tab}
use Rattle.algebra.specs.Those.{those}
use Rattle.contrasts.specs.Limits.{most_added, most_blocks}
use Rattle.plan.specs.declared.types.Plan.{Plan}
use Rattle.plan.specs.Check.{plan_refused}
use Rattle.plan.specs.Outcome.{Refusal, refusal, lowest, Outcome, written}
use Rattle.plan.specs.declared.refusals.Refusal as refusals
use Rattle.plan.specs.Refusals.{outcome_by}

-- ---- the lists

-- R15: "They come in rising order of first, second and third word, each once": first all that begin with the word 0, then all that begin
-- with 1, and so on
unfoldable pub lists_of : ℕ → ℕ → List (List ℕ)
lists_of k zero = [] ∷ []
lists_of k (suc b) = flatten (tab (2 ^ k) (λ w. map (λ ws. w ∷ ws) (lists_of k b)))

-- R14: "lists of strictly rising words": no word is at or below the one before it
unfoldable pub strictly_rising : List ℕ → Bool
strictly_rising ws = not (some (length ws - 1) (λ j. leb (get_or ws (j + 1) 0) (get_or ws j 0)))

-- R14: "at two levels with no added factor"; its runs are made once
abbrev pub blocked_plan : ℕ → List ℕ → Plan
blocked_plan k ws = record {
  levels = 2;
  k = k;
  added = 0;
  words = replicate most_added 0;
  signs = replicate most_added 0;
  blocks = length ws;
  blockwords = ws ++ replicate (most_blocks - length ws) 0;
  repeats = 1;
}

-- R14: "strictly rising words that the plan check accepts"
unfoldable pub is_blocking : ℕ → List ℕ → Bool
is_blocking k ws = strictly_rising ws && eqb (plan_refused (blocked_plan k ws)) 0

-- R14: "all lists of strictly rising words that the plan check accepts at two levels with no added factor"
unfoldable pub blockings_of : ℕ → ℕ → List (List ℕ)
blockings_of k b = those (is_blocking k) (lists_of k b)

-- R16: "one place per word"
abbrev pub blocking_words : ℕ → ℕ → List ℕ
blocking_words k b = flatten (blockings_of k b)

-- ---- what is refused

-- N3: "k outside this range"; R13: "k from 2 to 5"
unfoldable pub bad_factor_count : ℕ → Bool
bad_factor_count k = ltb k 2 || ltb 5 k

-- N17: "word count outside it"; R13: "one to three block words"
unfoldable pub bad_word_count : ℕ → Bool
bad_word_count b = ltb b 1 || ltb 3 b

-- L13: "3, k outside this range; 17, word count outside it; then 18, fewer places in the lent column than words to write"
abbrev pub blockings_refusals : ℕ → ℕ → ℕ → List Refusal
blockings_refusals k b room =
    refusal 3 (bad_factor_count k) ∷ refusal 17 (bad_word_count b) ∷ refusal 18 (ltb room (length (blocking_words k b))) ∷ []

unfoldable pub blockings_refused : ℕ → ℕ → ℕ → ℕ
blockings_refused k b room = lowest (blockings_refusals k b room)

-- ---- the answer

-- R16: "one place per word [..] places beyond the last word are untouched"
unfoldable pub blockings_column : ℕ → ℕ → List ℕ → List ℕ
blockings_column k b column =
    written (blockings_refused k b (length column)) (blocking_words k b ++ drop (length (blocking_words k b)) column) column

-- R17: "The number of lists is returned"
abbrev pub blockings_outcome : Result ℕ refusals.Refusal → Outcome ℕ
blockings_outcome answer = outcome_by (λ n. n) answer
