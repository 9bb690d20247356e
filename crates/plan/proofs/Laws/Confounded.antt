-- The confounded effects of an accepted plan.
--
--   not-empty, not-one-letter    a confounded effect is neither empty nor one letter
--   base-letters-only            it has base letters only, and so is the number of a row
--   letter-kept, word_kept       so the effect of one letter is not confounded, nor that of an added factor's word
--   word_some                    which is not empty
use Rattle.std.specs.Prelude.{◌≡◌, refl, true, false, List, ℕ, ◌^◌, ◌<◌, length, get_or}
use Rattle.std.proofs.Common.{ap, zero-lt-suc, arith, eqb-true}
use Rattle.std.proofs.Math.Nat.{one-le-pow}
use Rattle.std.proofs.Math.Dec.{eqb}
use Rattle.std.proofs.lemmas.Bool.{eqb-false}
use Rattle.algebra.specs.Laws.Tests.{fails}
use Rattle.words.specs.Words.{letters, combined, among}
use Rattle.words.specs.Laws.Letters.{letters-none}
use Rattle.words.specs.Laws.Parity.{letters-one}
use Rattle.words.specs.Laws.Combined.{combined-within}
use Rattle.plan.specs.declared.types.Plan.{Plan}
use Rattle.plan.specs.Plan.{added_words, block_words, combines_to, confounded_in}
use Rattle.words.specs.Laws.Any.{none_at}
use Rattle.plan.proofs.Laws.Combinations.{the-combination}
use Rattle.plan.proofs.Laws.Accepted.{Accepted}

-- each of the words is among them
own-word : (ws : List ℕ) (j : ℕ) → j < length ws → among (get_or ws j 0) ws ≡ false → ⊥
unfolding among
own-word ws j h e = eqb-false (get_or ws j 0) (get_or ws j 0) (none_at (λ v. eqb v (get_or ws j 0)) ws e j h) refl

module _ {p : Plan} (a : Accepted p) (w : ℕ) (e : confounded_in p w ≡ true) where
  pub not-empty : w ≡ 0 → ⊥
  not-empty = (a.lost w e).0

  pub not-one-letter : letters w ≡ 1 → ⊥
  not-one-letter = (a.lost w e).1

  pub base-letters-only : w < 2 ^ p.k
  unfolding combines_to
  base-letters-only =
      let c = the-combination (block_words p) (λ v. eqb v w) e in
      let v = combined 0 c.0 (block_words p) in
      rw (← (eqb-true v w c.3))
      (combined-within p.k 0 c.0 (block_words p) (one-le-pow p.k 2 (zero-lt-suc 1)) (λ j h. (a.blocks j h).0))

module _ {p : Plan} (a : Accepted p) where
  pub letter-kept : (i : ℕ) → i < 16 → confounded_in p (2 ^ i) ≡ false
  letter-kept i h = fails (confounded_in p (2 ^ i)) (λ e. not-one-letter a (2 ^ i) e (letters-one i h))

  module _ (j : ℕ) (h : j < length (added_words p)) where
    abbrev pub added_word : ℕ
    added_word = get_or (added_words p) j 0

    pub word_kept : confounded_in p added_word ≡ false
    word_kept = fails (confounded_in p added_word) (λ e. own-word (added_words p) j h (a.lost added_word e).2)

    pub word_some : added_word ≡ 0 → ⊥
    word_some z = omega (arith, (a.words j h).1, ap letters z, letters-none)
