-- Base letters in a run: the run call's set of high letters has those that the run's number has.
--
--   high-letter    a base letter of the set
--   high-odd       so a word of base letters has an odd number of letters in both, or in neither
use Rattle.std.specs.Prelude.{◌≡◌, Bool, cond, List, ℕ, ◌*◌, ◌^◌, ◌<◌, ◌≤◌}
use Rattle.std.proofs.Math.Path.{sym, ap}
use Rattle.std.proofs.Common.{◌∙◌}
use Rattle.algebra.specs.Laws.Bits.{bit-lt, digit}
use Rattle.algebra.specs.Laws.Naturals.{Σℕ-cong}
use Rattle.words.specs.Words.{letter, odd, odd_in}
use Rattle.words.specs.Laws.Letters.{shared-first}
use Rattle.runs.specs.Run.{high_letters}
use Rattle.runs.specs.Laws.High.{high-base}

module _ (k : ℕ) (words signs : List ℕ) (r : ℕ) where
  pub high-letter : (i : ℕ) → i < k → letter (high_letters k words signs r) i ≡ letter r i
  high-letter i h =
      sym (digit (letter (high_letters k words signs r) i) (bit-lt (high_letters k words signs r) i))
      ∙ ap (λ (b : Bool). cond b 1 0) (high-base k words signs r i h)
      ∙ digit (letter r i) (bit-lt r i)

  pub high-odd : (e : ℕ) → k ≤ 16 → e < 2 ^ k → odd_in (high_letters k words signs r) e ≡ odd_in r e
  unfolding odd_in
  high-odd e h l =
      ap odd (shared-first k (high_letters k words signs r) e h l
      ∙ Σℕ-cong k (λ i g. ap (λ (m : ℕ). m * letter e i) (high-letter i g))
      ∙ sym (shared-first k r e h l))
