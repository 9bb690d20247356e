-- The run call: which letters are high in a run, and its block.
--
--   high_by sign word r            an added factor is high in run r
--   high_in k words signs r i      letter i is high in run r
--   high_letters k words signs r   the set of letters that are high
--   block_number words r           the run's block
--   run_values p r                 both, of a plan; at three levels no letters, and the block by its word
--   run_refusals p r               the refusals of the call besides those of the plan
--   run_refused p r                the first number that applies, 0 where the run is given
--   run_outcome                    the cases of the call's answer
use Rattle.std.specs.Prelude.{Result, Bool, not, cond, List, [], ◌∷◌, ℕ, ◌+◌, ◌-◌, eqb, ltb, leb, length, get_or}
use Rattle.contrasts.specs.Blocks.{block_of}
use Rattle.words.specs.Words.{has, word_of, odd_in}
use Rattle.plan.specs.declared.types.Plan.{Plan}
use Rattle.runs.specs.declared.types.Run.{Run}
use Rattle.plan.specs.declared.refusals.Refusal as refusals
use Rattle.plan.specs.Refusals.{outcome_by}
use Rattle.plan.specs.Outcome.{Refusal, refusal, Outcome}
use Rattle.plan.specs.Plan.{added_words, added_signs, block_words, three_word, factors_of, runs_of}
use Rattle.plan.specs.Check.{with_plan}

-- P8: "With sign 0 it is high in a run exactly when an odd number of its word's letters are high."
-- P9: "With sign 1 it is the other way round."
unfoldable pub high_by : ℕ → ℕ → ℕ → Bool
high_by sign word r = cond (eqb sign 0) (odd_in r word) (not (odd_in r word))

-- R2: "Run numbers have A as the lowest digit, 0 for the low level."
-- P5: "Base factors have letters from A on, added factors the letters that follow."
unfoldable pub high_in : ℕ → List ℕ → List ℕ → ℕ → ℕ → Bool
high_in k words signs r i = cond (ltb i k) (has r i) (high_by (get_or signs (i - k) 0) (get_or words (i - k) 0) r)

-- R8: "a 16-bit set of the letters that are high, added factors included"
unfoldable pub high_letters : ℕ → List ℕ → List ℕ → ℕ → ℕ
high_letters k words signs r = word_of (k + length words) (high_in k words signs r)

-- R4: "A run's block number has, for block word j counted from 0, bit j set when an odd number of that word's letters are high."
unfoldable pub block_number : List ℕ → ℕ → ℕ
block_number words r = word_of (length words) (λ j. odd_in r (get_or words j 0))

-- R8, R9: the values of the run call; R12: "The run call takes three-level plans too: no letters, and the block, 0 without a word": the word is 0 then,
-- and so is the block (`Block-none`)
abbrev pub run_values : Plan → ℕ → ℕ × ℕ
run_values p r =
    cond (eqb p.levels 3)
    (0, block_of (factors_of p) (three_word p) r)
    (high_letters p.k (added_words p) (added_signs p) r, block_number (block_words p) r)

-- L7: "the run and alias calls 9, 10", and "no 9 from the run call"; N10: "run number not in the plan"
abbrev pub run_refusals : Plan → ℕ → List Refusal
run_refusals p r = refusal 10 (leb (runs_of p) r) ∷ []

unfoldable pub run_refused : Plan → ℕ → ℕ
run_refused p r = with_plan p (run_refusals p r)

-- F12
abbrev pub run_outcome : Result Run refusals.Refusal → Outcome (ℕ × ℕ)
run_outcome answer = outcome_by (λ (run : Run). (run.high, run.block)) answer
