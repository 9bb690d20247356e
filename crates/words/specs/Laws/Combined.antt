-- Laws on combinations of words.
--
--   Combining, combining-start, combining-more, combining-end
--                      the loop that combines words
--   combined-small     a combination is a 16-bit word
--   combined-at        its letters
--   combined-beyond    it has no letter beyond k where none of its words has one
--   combined-within    so it is below 2 ^ k where its first word is
--   combined-own       with none of the words a word combines to itself
--   combined-one       one word combines to itself
--   letters-one-of     and so has its letters, of any number the first 16
--   keeps-odd          a digit times a number is odd or even as it is times the number's lowest digit
--   shared-combined    how many letters it shares with a run is odd or even as the sum over its words is
--   combined-xor       two combinations of the same words combine to that of what is in one of them alone
use Rattle.std.specs.Prelude.{◌≡◌, Bool, ◌&&◌, List, eqb, leb, get_or}
use Rattle.std.proofs.Math.Path.{refl, sym, ap}
use Rattle.std.proofs.Common.{◌∙◌, mul-zero, zero-mul, mod-lt, mod-eq_of_lt, zero-lt-suc, arith, add-one}
use Rattle.std.proofs.Math.Bool.{true, false, cond}
use Prim.Native.Nat.{ℕ, zero, suc, ◌+◌, ◌*◌, ◌%◌, ◌^◌, ◌<◌, ◌≤◌}
use Rattle.std.proofs.Math.Nat.{zero-div, mul-add, add-mul, mul_comm, mul_left_comm}
use Rattle.std.specs.Int.Bits.{bit_xor}
use Rattle.std.proofs.lemmas.Nat.{xor_lt}
use Rattle.std.proofs.Math.ListN.{length}
use borrow.Author.Tests.{leb-true, eqb-true, eqb-false}
use Rattle.algebra.specs.Bits.{bit}
use Rattle.algebra.specs.Laws.Bits.{bit-lt, bit-xor, digit, bits-lt, bits_at, bits-all, bits-cong, bits-ext}
use Rattle.algebra.specs.Naturals.{Σℕ}
use Rattle.algebra.specs.Laws.Naturals.{Σℕ-none, Σℕ-add, Σℕ-mul, Σℕ-cong, Σℕ-one, Σℕ-swap, Σℕ-parity}
use Rattle.algebra.specs.Laws.Search.{some-false}
use Rattle.words.specs.Words.{letter, has, letters, beyond, shared, odd, times, combined}
use Rattle.words.specs.Laws.Letters.{one-letter, no-letter, beyond-none, within}

-- ---- the loop

-- after the first j words: letter i stands where it has occurred an odd number of times
pub record Combining (first choice : ℕ) (ws : List ℕ) (j word : ℕ) : Type 0 where
  pub within : j ≤ length ws
  pub small : word < 2 ^ 16
  pub at : (i : ℕ) → bit word i ≡ (letter first i + Σℕ j (λ m. letter choice m * letter (get_or ws m 0) i)) % 2

pub combining-start : (first choice : ℕ) (ws : List ℕ) → first < 2 ^ 16 → Combining first choice ws 0 first
unfolding Σℕ
combining-start first choice ws h = record { within = omega arith; small = h; at = λ i. omega (arith, bit-lt first i) }

module _ {first choice : ℕ} {ws : List ℕ} {j word : ℕ} (w : Combining first choice ws j word) where
  pub combining-more : j < length ws → (new : ℕ) {taken : Bool} → taken ≡ has choice j → get_or ws j 0 < 2 ^ 16
      → new ≡ cond taken (bit_xor word (get_or ws j 0)) word → Combining first choice ws (j + 1) new
  unfolding Σℕ
  combining-more l new t h e = rw (add-one j) (by (has choice j) refl (e ∙ ap (λ (b : Bool). cond b (bit_xor word (get_or ws j 0)) word) t))
    where
      by : (b : Bool) → has choice j ≡ b → new ≡ cond b (bit_xor word (get_or ws j 0)) word → Combining first choice ws (suc j) new
      by true b d = record {
        within = omega arith;
        small = rw d (xor_lt 16 word (get_or ws j 0) w.small h);
        at = λ i. rw (d, bit-xor word (get_or ws j 0) i, w.at i, eqb-true (letter choice j) 1 b) (omega arith);
      }
      by false b d = record {
        within = omega arith;
        small = rw d w.small;
        at = λ i. let z : letter choice j ≡ 0 = omega (arith, bit-lt choice j, eqb-false (letter choice j) 1 b) in rw (d, w.at i, z) (omega arith);
      }

  pub combining-end : length ws ≤ j → word ≡ combined first choice ws
  unfolding combined times
  combining-end l =
      let e : j ≡ length ws = omega (arith, w.within) in
      sym (bits-all 16 word w.small) ∙ bits-cong 16 (λ i k. rw (w.at i, e))

-- ---- what a combination is

pub combined-small : (w choice : ℕ) (ws : List ℕ) → combined w choice ws < 2 ^ 16
unfolding combined
combined-small w choice ws = bits-lt 16 (λ i. odd (times w choice ws i))

-- letter i of a combination
pub combined-at : (w choice : ℕ) (ws : List ℕ) (i : ℕ) → i < 16 → has (combined w choice ws) i ≡ odd (times w choice ws i)
unfolding combined
combined-at w choice ws i l = bits_at 16 (λ j. odd (times w choice ws j)) i l

times_none : (w choice : ℕ) (ws : List ℕ) (i : ℕ) → letter w i ≡ 0 → ((j : ℕ) → j < length ws → letter (get_or ws j 0) i ≡ 0)
    → times w choice ws i ≡ 0
unfolding times
times_none w choice ws i h hs =
    omega (arith, h, Σℕ-none (length ws) (λ j. letter choice j * letter (get_or ws j 0) i) (λ j l. rw (hs j l) (mul-zero (letter choice j))))

-- a combination has no letter beyond where none of its words has one
pub combined-beyond : (k w choice : ℕ) (ws : List ℕ) → beyond k w ≡ false
    → ((j : ℕ) → j < length ws → beyond k (get_or ws j 0) ≡ false) → beyond k (combined w choice ws) ≡ false
unfolding beyond
combined-beyond k w choice ws h hs = some-false 16 _ (λ i l. by i l (leb k i) refl)
  where
    never : (i : ℕ) → i < 16 → k ≤ i → times w choice ws i ≡ 0
    never i l g = times_none w choice ws i (no-letter k w h i l g) (λ j m. no-letter k (get_or ws j 0) (hs j m) i l g)

    by : (i : ℕ) → i < 16 → (b : Bool) → leb k i ≡ b → (leb k i && has (combined w choice ws) i) ≡ false
    by i l false e = rw e
    by i l true e = rw (e, combined-at w choice ws i l, never i l (leb-true k i e)) refl

pub combined-within : (k w choice : ℕ) (ws : List ℕ) → w < 2 ^ k → ((j : ℕ) → j < length ws → beyond k (get_or ws j 0) ≡ false)
    → combined w choice ws < 2 ^ k
combined-within k w choice ws h hs =
    within k (combined w choice ws) (combined-small w choice ws) (combined-beyond k w choice ws (beyond-none k w h) hs)

pub combined-own : (w : ℕ) (ws : List ℕ) → w < 2 ^ 16 → combined w 0 ws ≡ w
unfolding combined times
combined-own w ws h = bits-cong 16 (λ i l. rw (none i, mod-eq_of_lt (bit-lt w i)) refl) ∙ bits-all 16 w h
  where
    none : (i : ℕ) → times w 0 ws i ≡ letter w i
    none i =
        let s : Σℕ (length ws) (λ j. letter 0 j * letter (get_or ws j 0) i) ≡ 0
        = Σℕ-none (length ws) (λ j. letter 0 j * letter (get_or ws j 0) i) (λ j l. rw (zero-div (2 ^ j)) (zero-mul (letter (get_or ws j 0) i))) in
        omega (arith, s)

-- one of the words
module _ (j : ℕ) (ws : List ℕ) (h : j < length ws) (few : length ws ≤ 16) where
  digit-of : (b : Bool) (m : ℕ) → cond b 1 0 * m ≡ cond b m 0
  digit-of true m = omega arith
  digit-of false m = omega arith

  once : (i : ℕ) → times 0 (2 ^ j) ws i ≡ letter (get_or ws j 0) i
  unfolding times
  once i =
      let s : Σℕ (length ws) (λ m. letter (2 ^ j) m * letter (get_or ws m 0) i) ≡ letter (get_or ws j 0) i
      = Σℕ-cong (length ws) (λ m l. rw (one-letter j m (omega (arith, h, few)) (omega (arith, l, few))) (digit-of (eqb j m) (letter (get_or ws m 0) i)))
      ∙ Σℕ-one (length ws) j (λ m. letter (get_or ws m 0) i) h in
      let z : letter 0 i ≡ 0 = rw (zero-div (2 ^ i)) refl in
      omega (arith, s, z)

  has-own : (i : ℕ) → odd (times 0 (2 ^ j) ws i) ≡ has (get_or ws j 0) i
  has-own i = rw (once i, mod-eq_of_lt (bit-lt (get_or ws j 0) i)) refl

  pub combined-one : get_or ws j 0 < 2 ^ 16 → combined 0 (2 ^ j) ws ≡ get_or ws j 0
  unfolding combined
  combined-one small = bits-cong 16 (λ i l. has-own i) ∙ bits-all 16 (get_or ws j 0) small

  pub letters-one-of : letters (combined 0 (2 ^ j) ws) ≡ letters (get_or ws j 0)
  unfolding letters
  letters-one-of = Σℕ-cong 16 (λ i l. same i l)
    where
      same : (i : ℕ) → i < 16 → letter (combined 0 (2 ^ j) ws) i ≡ letter (get_or ws j 0) i
      same i l =
          let w = combined 0 (2 ^ j) ws in
          sym (digit (letter w i) (bit-lt w i)) ∙ ap (λ (b : Bool). cond b 1 0) (combined-at 0 (2 ^ j) ws i l ∙ has-own i)
          ∙ digit (letter (get_or ws j 0) i) (bit-lt (get_or ws j 0) i)

-- ---- odd or even

-- of a product with a digit
pub keeps-odd : (r t : ℕ) → r < 2 → (r * (t % 2)) % 2 ≡ (r * t) % 2
keeps-odd zero t h = rw (zero-mul (t % 2), zero-mul t) refl
keeps-odd (suc zero) t h = omega arith
keeps-odd (suc (suc r)) t h = absurd (omega (arith, h))

letter-odd : (w choice : ℕ) (ws : List ℕ) (i : ℕ) → i < 16 → letter (combined w choice ws) i ≡ times w choice ws i % 2
letter-odd w choice ws i l =
    sym (digit (letter (combined w choice ws) i) (bit-lt (combined w choice ws) i))
    ∙ rw (combined-at w choice ws i l) (digit (times w choice ws i % 2) (mod-lt (times w choice ws i) (zero-lt-suc 1)))

module _ (r w choice : ℕ) (ws : List ℕ) where
  -- a run's letter times how often the letter occurs, by words
  by-words : (i : ℕ) → letter r i * times w choice ws i
      ≡ letter r i * letter w i + Σℕ (length ws) (λ j. letter choice j * (letter r i * letter (get_or ws j 0) i))
  unfolding times
  by-words i =
      let f : ℕ → ℕ = λ j. letter choice j * letter (get_or ws j 0) i in
      mul-add (letter r i) (letter w i) (Σℕ (length ws) f)
      ∙ ap (λ (m : ℕ). letter r i * letter w i + m)
      (sym (Σℕ-mul (letter r i) (length ws) f) ∙ Σℕ-cong (length ws) (λ j l. mul_left_comm (letter r i) (letter choice j) (letter (get_or ws j 0) i)))

  pub shared-combined : shared r (combined w choice ws) % 2
      ≡ (shared r w + Σℕ (length ws) (λ j. letter choice j * shared r (get_or ws j 0))) % 2
  unfolding shared
  shared-combined =
      let n = length ws in
      let g : ℕ → ℕ → ℕ = λ i j. letter choice j * (letter r i * letter (get_or ws j 0) i) in
      Σℕ-parity 16 (λ i. letter r i * letter (combined w choice ws) i) (λ i. letter r i * times w choice ws i)
      (λ i l. rw (letter-odd w choice ws i l) (keeps-odd (letter r i) (times w choice ws i) (bit-lt r i)))
      ∙ ap (λ (m : ℕ). m % 2)
      (Σℕ-cong 16 (λ i l. by-words i)
      ∙ Σℕ-add 16 (λ i. letter r i * letter w i) (λ i. Σℕ n (g i))
      ∙ ap (λ (m : ℕ). shared r w + m)
      (Σℕ-swap 16 n g ∙ Σℕ-cong n (λ j l. Σℕ-mul (letter choice j) 16 (λ i. letter r i * letter (get_or ws j 0) i))))

-- ---- two combinations

module _ (w v c d : ℕ) (ws : List ℕ) where
  -- how often letter i occurs in both, up to an even number
  both-times : (i : ℕ) → times (bit_xor w v) (bit_xor c d) ws i % 2 ≡ (times w c ws i + times v d ws i) % 2
  unfolding times
  both-times i =
      let x : ℕ → ℕ = λ j. letter (get_or ws j 0) i in
      let s = Σℕ-parity (length ws) (λ j. letter (bit_xor c d) j * x j) (λ j. letter c j * x j + letter d j * x j) (λ j l. term j) in
      let a = Σℕ-add (length ws) (λ j. letter c j * x j) (λ j. letter d j * x j) in
      omega (arith, bit-xor w v i, s, a)
    where
      term : (j : ℕ) → (letter (bit_xor c d) j * letter (get_or ws j 0) i) % 2 ≡ (letter c j * letter (get_or ws j 0) i + letter d j * letter (get_or ws j 0) i) % 2
      term j =
          let x = letter (get_or ws j 0) i in
          rw (bit-xor c d j, mul_comm ((letter c j + letter d j) % 2) x, keeps-odd x (letter c j + letter d j) (bit-lt (get_or ws j 0) i))
          (ap (λ (m : ℕ). m % 2) (mul_comm x (letter c j + letter d j) ∙ add-mul (letter c j) (letter d j) x))

  pub combined-xor : combined (bit_xor w v) (bit_xor c d) ws ≡ bit_xor (combined w c ws) (combined v d ws)
  combined-xor =
      let first = combined w c ws in
      let second = combined v d ws in
      bits-ext 16 (combined (bit_xor w v) (bit_xor c d) ws) (bit_xor first second) (combined-small (bit_xor w v) (bit_xor c d) ws)
      (xor_lt 16 first second (combined-small w c ws) (combined-small v d ws))
      (λ i l.
      let both : times (bit_xor w v) (bit_xor c d) ws i % 2 ≡ letter (bit_xor first second) i
      = omega (arith, both-times i, letter-odd w c ws i l, letter-odd v d ws i l, bit-xor first second i) in
      combined-at (bit_xor w v) (bit_xor c d) ws i l ∙ ap (λ (m : ℕ). eqb m 1) both)
