-- Single answers on a plan in bytes: for each call its number, by the call on the plan, and what it leaves in each place that it is lent.
--
--   run_on_head, run_high, run_block                     the run call
--   alias_on_head, alias_word, alias_turned              the alias call
--   outcome_code, double_of                                   the outcome of an estimate as a number, and its double
--   estimate_on_head, estimate_kind, estimate_double     the estimate
--   blockings_count                                      the blocking call: how many lists there are
use Rattle.std.specs.Prelude.{cond, List, ℕ, ℤ, Float, length}
use Rattle.plan.specs.Outcome.{written}
use Rattle.runs.specs.Run.{run_refused, run_values}
use Rattle.aliases.specs.Alias.{alias_refused, alias_values}
use Rattle.blockings.specs.Blockings.{blockings_of, blockings_refused}
use Rattle.estimates.specs.Estimate.{Value, mean, difference, lost, estimate_refused, estimate_value}
use Rattle.heads.specs.Heads.{head_plan, called}

-- ---- the run call, of run r

-- L4, L7: the numbers of the call
unfoldable pub run_on_head : List ℕ → ℕ → ℕ
run_on_head head r = called head (λ p. run_refused p r)

-- R8: "a 16-bit set of the letters that are high"
unfoldable pub run_high : List ℕ → ℕ → ℕ → ℕ
run_high head r old = written (run_on_head head r) (run_values (head_plan head) r).0 old

-- R4, R9, R11, R12: the block
unfoldable pub run_block : List ℕ → ℕ → ℕ → ℕ
run_block head r old = written (run_on_head head r) (run_values (head_plan head) r).1 old

-- ---- the alias call, of the effect e

unfoldable pub alias_on_head : List ℕ → ℕ → ℕ
alias_on_head head e = called head (λ p. alias_refused p e)

-- E8, E9: the base word
unfoldable pub alias_word : List ℕ → ℕ → ℕ → ℕ
alias_word head e old = written (alias_on_head head e) (alias_values (head_plan head) e).0 old

-- E8, E10: 1 where the sign turns, and else 0
unfoldable pub alias_turned : List ℕ → ℕ → ℕ → ℕ
alias_turned head e old = written (alias_on_head head e) (cond (alias_values (head_plan head) e).1 1 0) old

-- ---- the estimate, of the effect e with the total t

-- E1: "three outcomes: the mean as a double, a difference as a double, or lost to blocks with no number"
abbrev pub outcome_code : Value → ℕ
outcome_code (mean x) = 0
outcome_code (difference x) = 1
outcome_code lost = 2

-- E1: where there is no number the double keeps its value
abbrev pub double_of : Value → Float → Float
double_of (mean x) old = x
double_of (difference x) old = x
double_of lost old = old

unfoldable pub estimate_on_head : List ℕ → ℕ → ℤ → ℕ
estimate_on_head head e t = called head (λ p. estimate_refused p e t)

unfoldable pub estimate_kind : List ℕ → ℕ → ℤ → ℕ → ℕ
estimate_kind head e t old = written (estimate_on_head head e t) (outcome_code (estimate_value (head_plan head) e t)) old

unfoldable pub estimate_double : List ℕ → ℕ → ℤ → Float → Float
estimate_double head e t old = written (estimate_on_head head e t) (double_of (estimate_value (head_plan head) e t) old) old

-- ---- the blocking call, of k factors and b words

-- R17: "The number of lists is returned"
unfoldable pub blockings_count : ℕ → ℕ → ℕ → ℕ → ℕ
blockings_count k b room old = written (blockings_refused k b room) (length (blockings_of k b)) old
