-- A word that is even in every run in which some words are even is a combination of these words.
--
--   EvenIn r ws         the run r has an even number of letters in common with each of the words ws
--   EvenWith n ws e     e is even in every run of n letters in which the words ws are
--   pair a b            two words combined
--   odd-pair            in a run it is odd where one of the two is, and not both
--   pair-odd            the same of two runs
--   combined-none       none of the words combine to the empty word
--   combined-rest       a choice that leaves out the first word combines others only
--   combined-first      one that takes it combines it with what the rest of the choice combines to
--   Combination ws e    some of the words ws combine to e
--   even-combined       THE LAW, for words of n letters
use Rattle.std.specs.Prelude.{◌≡◌, Bool, cond, not, ◌&&◌, List, [], ◌∷◌, ℕ, zero, suc, ◌+◌, ◌*◌, ◌/◌, ◌%◌, ◌^◌, ◌<◌, ◌≤◌, eqb, length, get_or}
use Rattle.std.proofs.Math.Path.{refl}
use Rattle.std.proofs.Common.{sym, ap, ap₂, ◌∙◌, true≢false, zero-lt-suc, lt_of_lt_of_le, arith, pow_pos}
use Rattle.std.proofs.Math.Bool.{true, false}
use Rattle.std.proofs.Math.Nat.{zero-div, pow-le-pow_right, pow-succ'}
use Rattle.std.proofs.Math.Pow.{pow-lt}
use Rattle.algebra.specs.Naturals.{Σℕ}
use Rattle.algebra.specs.Laws.Naturals.{Σℕ-first, Σℕ-cong}
use Rattle.algebra.specs.Laws.Bits.{bit-lt, bit-zero, bit-suc, bits-cong, bits-ext}
use Rattle.algebra.specs.Search.{some}
use Rattle.algebra.specs.Laws.Search.{some_at, none-at, some-false}
use Rattle.words.specs.Laws.Any.{none_at, all_fail}
use Rattle.words.specs.Words.{letter, has, shared, odd, odd_in, beyond, times, combined, any}
use Rattle.words.specs.Laws.Letters.{odd-same, beyond-none}
use Rattle.words.specs.Laws.Combined.{combined-small, combined-at, combined-within, combined-own, shared-combined}
use Rattle.words.specs.Laws.Parity.{odd-add, odd-swap, one-odd}

abbrev pub EvenIn : ℕ → List ℕ → Type 0
EvenIn r ws = (j : ℕ) → j < length ws → odd_in r (get_or ws j 0) ≡ false

abbrev pub EvenWith : ℕ → List ℕ → ℕ → Type 0
EvenWith n ws e = (r : ℕ) → r < 2 ^ n → EvenIn r ws → odd_in r e ≡ false

-- ---- two words

abbrev pair : ℕ → ℕ → ℕ
pair a b = combined a 1 (b ∷ [])

odd-pair : (r a b : ℕ) → odd_in r (pair a b) ≡ cond (odd_in r b) (not (odd_in r a)) (odd_in r a)
unfolding odd_in Σℕ
odd-pair r a b =
    let e : shared r (pair a b) % 2 ≡ (shared r a + shared r b) % 2 = omega (arith, shared-combined r a 1 (b ∷ [])) in
    ap (λ (m : ℕ). eqb m 1) e ∙ odd-add (shared r a) (shared r b)

pair-odd : (r s w : ℕ) → odd_in (pair r s) w ≡ cond (odd_in s w) (not (odd_in r w)) (odd_in r w)
pair-odd r s w = odd-swap (pair r s) w ∙ odd-pair w r s ∙ rw (odd-swap w r, odd-swap w s) refl

pair-times : (a b i : ℕ) → times a 1 (b ∷ []) i ≡ letter a i + letter b i
unfolding times Σℕ
pair-times a b i = omega arith

pair-within : (n a b : ℕ) → a < 2 ^ n → beyond n b ≡ false → pair a b < 2 ^ n
pair-within n a b h l = combined-within n a 1 (b ∷ []) h only
  where
    only : (j : ℕ) → j < 1 → beyond n (get_or (b ∷ []) j 0) ≡ false
    only zero g = l
    only (suc j) g = absurd (omega (arith, g))

-- ---- combinations, by their first word

-- a choice is its lowest digit, for the first word, and the rest
times_more : (b c w : ℕ) (ws : List ℕ) (i : ℕ) → b < 2 → times 0 (b + 2 * c) (w ∷ ws) i ≡ b * letter w i + times 0 c ws i
unfolding times
times_more b c w ws i h = omega (arith, sum)
  where
    first : letter (b + 2 * c) 0 ≡ b
    first = bit-zero (b + 2 * c) ∙ omega (arith, h)

    rest : (j : ℕ) → letter (b + 2 * c) (suc j) ≡ letter c j
    rest j = let half : (b + 2 * c) / 2 ≡ c = omega (arith, h) in bit-suc (b + 2 * c) j ∙ ap (λ (m : ℕ). letter m j) half

    sum : Σℕ (suc (length ws)) (λ j. letter (b + 2 * c) j * letter (get_or (w ∷ ws) j 0) i)
        ≡ b * letter w i + Σℕ (length ws) (λ j. letter c j * letter (get_or ws j 0) i)
    sum =
        Σℕ-first (length ws) (λ j. letter (b + 2 * c) j * letter (get_or (w ∷ ws) j 0) i)
        ∙ ap₂ ◌+◌ (ap (λ (m : ℕ). m * letter w i) first) (Σℕ-cong (length ws) (λ j l. ap (λ (m : ℕ). m * letter (get_or ws j 0) i) (rest j)))

no-letter-at : (i : ℕ) → letter 0 i ≡ 0
no-letter-at i = rw (zero-div (2 ^ i)) refl

pub combined-none : (ws : List ℕ) → combined 0 0 ws ≡ 0
combined-none ws = combined-own 0 ws (omega arith)

combined-rest : (c w : ℕ) (ws : List ℕ) → combined 0 (0 + 2 * c) (w ∷ ws) ≡ combined 0 c ws
unfolding combined
combined-rest c w ws = bits-cong 16 (λ i l. ap odd (same i))
  where
    same : (i : ℕ) → times 0 (0 + 2 * c) (w ∷ ws) i ≡ times 0 c ws i
    same i = omega (arith, times_more 0 c w ws i (omega arith))

combined-first : (c e w : ℕ) (ws : List ℕ) → e < 2 ^ 16 → combined 0 c ws ≡ pair e w → combined 0 (1 + 2 * c) (w ∷ ws) ≡ e
combined-first c e w ws small d =
    bits-ext 16 (combined 0 (1 + 2 * c) (w ∷ ws)) e (combined-small 0 (1 + 2 * c) (w ∷ ws)) small
    (λ i l. combined-at 0 (1 + 2 * c) (w ∷ ws) i l ∙ ap (λ (m : ℕ). eqb m 1) (at i l))
  where
    at : (i : ℕ) → i < 16 → times 0 (1 + 2 * c) (w ∷ ws) i % 2 ≡ letter e i
    at i l =
        let s : times 0 c ws i % 2 ≡ times e 1 (w ∷ []) i % 2
        = odd-same (times 0 c ws i) (times e 1 (w ∷ []) i) (sym (combined-at 0 c ws i l) ∙ ap (λ (m : ℕ). has m i) d ∙ combined-at e 1 (w ∷ []) i l) in
        omega (arith, s, pair-times e w i, times_more 1 c w ws i (omega arith), bit-lt e i)

-- ---- the law

abbrev pub Combination : List ℕ → ℕ → Type 0
Combination ws e = (c : ℕ) × (c < 2 ^ length ws) × (combined 0 c ws ≡ e)

module _ (n : ℕ) (few : n ≤ 16) where
  -- without words: a run of one letter shows that e has not that letter
  no_words : (e : ℕ) → e < 2 ^ n → EvenWith n [] e → e ≡ 0
  no_words e small h =
      bits-ext n e 0 small (pow_pos n)
      (λ i l. sym (one-odd e i (omega (arith, l, few))) ∙ odd-swap e (2 ^ i) ∙ h (2 ^ i) (pow-lt l) (none (2 ^ i)) ∙ sym (rw (no-letter-at i) refl))
    where
      none : (r : ℕ) → EvenIn r []
      none r j g = absurd (omega (arith, g))

  -- a run in which ws are even and e is odd
  abbrev parts : List ℕ → ℕ → ℕ → Bool
  parts ws e r = not (any (odd_in r) ws) && odd_in r e

  no_run : (ws : List ℕ) (e : ℕ) → some (2 ^ n) (parts ws e) ≡ false → EvenWith n ws e
  no_run ws e d r l v =
      rw (all_fail (odd_in r) ws v) at (none-at (2 ^ n) (parts ws e) d r l)

  a-run : (ws : List ℕ) (e r : ℕ) → parts ws e r ≡ true → EvenIn r ws × (odd_in r e ≡ true)
  a-run ws e r d = by (any (odd_in r) ws) refl d
    where
      by : (b : Bool) → any (odd_in r) ws ≡ b → (not b && odd_in r e) ≡ true → EvenIn r ws × (odd_in r e ≡ true)
      by false f g = (none_at (odd_in r) ws f, g)
      by true f g = absurd (true≢false (sym g))

  module _ (w : ℕ) (ws : List ℕ) (e : ℕ) (h : EvenWith n (w ∷ ws) e) where
    even-more : (r : ℕ) → odd_in r w ≡ false → EvenIn r ws → EvenIn r (w ∷ ws)
    even-more r o v zero l = o
    even-more r o v (suc j) l = v j (omega arith)

    -- q is such a run: w is odd in it too, and then e combined with w is even in every run in which ws are, r or r combined with q showing it
    module _ (q : ℕ) (inside : q < 2 ^ n) (v : EvenIn q ws) (o : odd_in q e ≡ true) where
      odd-too : odd_in q w ≡ true
      odd-too = by (odd_in q w) refl
        where
          by : (b : Bool) → odd_in q w ≡ b → odd_in q w ≡ true
          by true d = d
          by false d = absurd (true≢false (sym o ∙ h q inside (even-more q d v)))

      pair-even : EvenWith n ws (pair e w)
      pair-even r l u = odd-pair r e w ∙ by (odd_in r w) refl
        where
          by : (b : Bool) → odd_in r w ≡ b → cond b (not (odd_in r e)) (odd_in r e) ≡ false
          by false d = h r l (even-more r d u)
          by true d =
              sym (pair-odd r q e ∙ rw o refl)
              ∙ h (pair r q) (pair-within n r q l (beyond-none n q inside))
              (even-more (pair r q) (pair-odd r q w ∙ rw (odd-too, d) refl) (λ j g. pair-odd r q (get_or ws j 0) ∙ rw (v j g) (u j g)))

  one_more : (w : ℕ) (ws : List ℕ) → beyond n w ≡ false → ((e : ℕ) → e < 2 ^ n → EvenWith n ws e → Combination ws e)
      → (e : ℕ) → e < 2 ^ n → EvenWith n (w ∷ ws) e → Combination (w ∷ ws) e
  one_more w ws within others e small h = by (some (2 ^ n) (parts ws e)) refl
    where
      by : (b : Bool) → some (2 ^ n) (parts ws e) ≡ b → Combination (w ∷ ws) e
      by false d =
          let c = others e small (no_run ws e d) in
          (0 + 2 * c.0, omega (arith, c.1, pow-succ' 2 (length ws)), combined-rest c.0 w ws ∙ c.2)
      by true d =
          let q = some_at (2 ^ n) (parts ws e) d in
          let v = a-run ws e q.0 q.2 in
          let c = others (pair e w) (pair-within n e w small within) (pair-even w ws e h q.0 q.1 v.0 v.1) in
          let s : e < 2 ^ 16 = lt_of_lt_of_le small (pow-le-pow_right {n = 2} (zero-lt-suc 1) few) in
          (1 + 2 * c.0, omega (arith, c.1, pow-succ' 2 (length ws)), combined-first c.0 e w ws s c.2)

  pub even-combined : (ws : List ℕ) → ((j : ℕ) → j < length ws → beyond n (get_or ws j 0) ≡ false)
      → (e : ℕ) → e < 2 ^ n → EvenWith n ws e → Combination ws e
  even-combined [] within e small h = (0, omega arith, combined-none [] ∙ sym (no_words e small h))
  even-combined (w ∷ ws) within e small h =
      one_more w ws (within 0 (omega arith)) (even-combined ws (λ j l. within (suc j) (omega (arith, l)))) e small h
