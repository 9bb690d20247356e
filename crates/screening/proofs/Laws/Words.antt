-- The base words of main effects and of interactions of two factors, as code forms them.
--
--   pair-word       the base word of an interaction of two factors is the combination of theirs
--   main-at         the word of factor i in the list of all
--   meet-pairs      so two effects meet where two of the factors' words combine to a factor's
--   pairs_listed    word j beside those before it, as a list
--   main-formed     that of the main effect of a base factor is its letter, of an added factor the word that the plan has for it
use Rattle.std.specs.Prelude.{◌≡◌, Bool, cond, List, [], length, get_or, take}
use Rattle.std.proofs.Common.{sym, ◌∙◌, arith, lt-ltb, le-ltb}
use Rattle.std.proofs.Math.Path.{ap}
use Prim.Native.Nat.{ℕ, ◌+◌, ◌-◌, ◌^◌, ◌<◌, ◌≤◌}
use Rattle.std.proofs.Math.Decide.{dec_lt}
use Rattle.std.specs.Int.Bits.{bit_xor}
use Rattle.std.proofs.Math.Pow.{pow-lt}
use Rattle.algebra.specs.Search.{some}
use Rattle.algebra.specs.Laws.Search.{some-cong}
use Rattle.algebra.specs.Laws.Tab.{length-tab, get_or-tab}
use Rattle.words.specs.Words.{any, among}
use Rattle.words.specs.Laws.Any.{any_placed}
use Rattle.std.proofs.lemmas.List.{length-take-le, get_or-take}
use Rattle.plan.specs.declared.types.Plan.{Plan}
use Rattle.plan.specs.Plan.{added_words, all_letters}
use Rattle.aliases.specs.Alias.{base_word}
use Rattle.aliases.specs.Laws.BaseWord.{base-own, base-one, base-both}
use Rattle.screening.specs.Screening.{main_word, main_words, pair_word, meet}
use Rattle.screening.specs.Inner.Formed.{main_formed, pairs_with, some_pair}

-- ---- pairs

module _ (p : Plan) where
  pub pair-word : (i j : ℕ) → i < j → pair_word p i j ≡ bit_xor (main_word p i) (main_word p j)
  pair-word i j h = base-both p.k (added_words p) (2 ^ i) j (pow-lt h)

  pub main-at : (i : ℕ) → i < all_letters p → get_or (main_words p) i 0 ≡ main_word p i
  main-at i h = get_or-tab 0 (all_letters p) (main_word p) i h

  pub meet-pairs : meet p ≡ some_pair (main_words p) (main_words p)
  unfolding meet some_pair pairs_with
  meet-pairs =
      some-cong n (λ j l. some-cong j (λ i h. ap (λ (w : ℕ). among w (main_words p)) (rw (main-at i (omega arith), main-at j l) (pair-word i j h))))
      ∙ ap (λ (m : ℕ). some m (λ j. some j (λ i. among (bit_xor (get_or (main_words p) i 0) (get_or (main_words p) j 0)) (main_words p)))) (sym (length-tab n (main_word p)))
    where
      n : ℕ
      n = all_letters p

-- the words before word j, as the code goes through them
pub pairs_listed : (j : ℕ) (words mains : List ℕ) → j ≤ length words
    → any (λ other. among (bit_xor other (get_or words j 0)) mains) (take j words) ≡ pairs_with j words mains
unfolding pairs_with
pairs_listed j words mains h =
    any_placed (λ other. among (bit_xor other (get_or words j 0)) mains) (take j words)
    ∙ rw (length-take-le j words h) (some-cong j (λ i l. ap (λ (w : ℕ). among (bit_xor w (get_or words j 0)) mains) (get_or-take j words i 0 l)))

-- ---- the word of a factor

module _ (k : ℕ) (words : List ℕ) (room : k + length words ≤ 16) (bits : (j : ℕ) → j < length words → get_or words j 0 < 2 ^ 16) where
  pub main-formed : (i : ℕ) → i < k + length words → base_word k words (2 ^ i) ≡ main_formed k words i
  main-formed i h = by (dec_lt i k)
    where
      by : Dec (i < k) → base_word k words (2 ^ i) ≡ main_formed k words i
      by (yes l) =
          base-own k words [] (2 ^ i) (omega (arith, room)) (pow-lt l)
          ∙ sym (ap (λ (t : Bool). cond t (2 ^ i) (get_or words (i - k) 0)) (lt-ltb i k l))
      by (no l) =
          let e : i ≡ k + (i - k) = omega arith in
          ap (λ (m : ℕ). base_word k words (2 ^ m)) e
          ∙ base-one k (i - k) words (omega arith) (omega (arith, room)) (bits (i - k) (omega arith))
          ∙ sym (ap (λ (t : Bool). cond t (2 ^ i) (get_or words (i - k) 0)) (le-ltb i k (omega arith)))
