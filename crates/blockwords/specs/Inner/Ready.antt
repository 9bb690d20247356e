-- What is known of a list whose line is written, and of a column of lists.
--
--   Blocked k ws             ws are block words of an accepted plan of k factors, at most five
--   ListsIn k b n column     the column begins with the n lists of b words that block a plan of k factors, at most five
use Rattle.std.specs.Prelude.{◌≡◌, List, ℕ, ◌≤◌, length, take}
use Rattle.plan.specs.Check.{plan_refused}
use Rattle.blockings.specs.Blockings.{blocked_plan, blockings_of, blocking_words}

pub record Blocked (k : ℕ) (ws : List ℕ) : Type 0 where
  pub small : k ≤ 5
  pub accepted : plan_refused (blocked_plan k ws) ≡ 0

pub record ListsIn (k b n : ℕ) (column : List ℕ) : Type 0 where
  pub small : k ≤ 5
  pub all : n ≡ length (blockings_of k b)
  pub begins : take (length (blocking_words k b)) column ≡ blocking_words k b
