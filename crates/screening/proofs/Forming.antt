-- The loop that forms the words of factors.
--
--   Forming k words factors i mains    the words of the first i of so many factors are formed
--   forming-none, forming-more, forming-all    before the first, after one more, after the last
use mathlib.Core.Path.{◌≡◌, sym, ◌∙◌}
use mathlib.Core.List.{List}
use Prim.Native.Nat.{ℕ, ◌+◌, ◌^◌, ◌<◌, ◌≤◌}
use native.Mathlib.Omega.{arith}
use lib.ListN.{length, get_or, set, take, replicate}
use Rattle.algebra.specs.Tab.{tab}
use Rattle.algebra.specs.Laws.Fill.{Filled, filled-blank, filled_more, filled-first}
use Rattle.algebra.specs.Laws.Tab.{tab-cong}
use Rattle.aliases.specs.Alias.{base_word}
use Rattle.screening.specs.Inner.Formed.{main_formed}
use Rattle.screening.proofs.Laws.Words.{main-formed}

pub record Forming (k : ℕ) (words : List ℕ) (factors i : ℕ) (mains : List ℕ) : Type 0 where
  pub within : i ≤ factors
  pub filled : Filled 16 (λ j. main_formed k words j) (λ j. 0) i mains

pub forming-none : (k : ℕ) (words : List ℕ) (factors : ℕ) → Forming k words factors 0 (replicate 16 0)
forming-none k words factors = record { within = omega arith; filled = filled-blank 0 16 (λ j. main_formed k words j) 0 }

module _ {k : ℕ} {words : List ℕ} {factors i : ℕ} {mains : List ℕ} (w : Forming k words factors i mains) where
  pub forming-more : i < factors → factors ≤ 16 → {v : ℕ} → v ≡ main_formed k words i → Forming k words factors (i + 1) (set mains i v)
  forming-more h few e = record { within = omega arith; filled = filled_more 0 w.filled (omega arith) e }

  pub forming-all : factors ≡ k + length words → k + length words ≤ 16 → ((j : ℕ) → j < length words → get_or words j 0 < 2 ^ 16) → factors ≤ i
      → take (k + length words) mains ≡ tab (k + length words) (λ j. base_word k words (2 ^ j))
  forming-all all room bits h =
      filled-first 0 w.filled (k + length words) (omega (arith, all, h))
      ∙ tab-cong 0 (k + length words) (λ j. main_formed k words j) (λ j. base_word k words (2 ^ j)) (λ j l. sym (main-formed k words room bits j l))
