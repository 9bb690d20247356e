-- Laws on the letters of a word, and what the machine's operations on 16-bit words say of them.
--
--   letters-ones           a word's letters are its ones
--   letters-none           the empty word has none
--   odd-ones               an odd number of letters in common is an odd number of ones of `run & word`
--   beyond-none, within    a word below 2 ^ n has no letter from n on, and one that has none is below it
--   beyond-most            no word has one from 16 on
--   shifted                with n letters shifted out, letter i is letter n + i
--   beyond-shifted         the test is whether anything is left when n letters are shifted out
--   odd-same               numbers that are both odd, or both even, have one remainder
--   shared-none            a run shares no letter with the empty word
--   shared-first           with a word below 2 ^ n it shares letters among the first n only
--   one-letter             the letters of the word of one letter
--   no-letter              a word with no letter beyond k lacks each of them
use Rattle.std.specs.Prelude.{◌≡◌, refl, Bool, true, false, cond, not, ◌&&◌, ℕ, ◌+◌, ◌*◌, ◌/◌, ◌%◌, ◌^◌, ◌<◌, ◌≤◌, eqb, leb}
use Rattle.std.proofs.Common.{sym, ap, ◌∙◌, subst, true≢false, div-lt_iff_lt-mul, one-mul, mul-zero, mod-lt, zero-lt-suc, lt_of_le_of_lt, lt_of_lt_of_le, div-le_self, arith, pow-add, ne_eqb, leb-true, leb-false, le-leb}
use Rattle.std.proofs.Math.Nat.{div-div-eq-div-mul, one-le-pow, pow-le-pow_right, zero-div}
use Rattle.std.specs.Int.Bits.{bit_and}
use Rattle.std.specs.Int.Count.{ones}
use Rattle.algebra.specs.Laws.Bits.{digit, bit-lt, bit-none, bit-unset, bits_at, bits-ext, ones-bits, ones_and}
use Rattle.algebra.specs.Bits.{bit, bits, is_set}
use Rattle.algebra.specs.Naturals.{Σℕ}
use Rattle.algebra.specs.Laws.Naturals.{Σℕ-none, Σℕ-one, Σℕ-upto}
use Rattle.algebra.specs.Laws.Search.{some-false, none-at}
use Rattle.words.specs.Words.{letter, has, letters, beyond, shared, odd_in, odd}

pub letters-ones : (w : ℕ) → w < 2 ^ 16 → ones w ≡ letters w
unfolding letters
letters-ones w h = ones-bits 16 w h

pub letters-none : letters 0 ≡ 0
unfolding letters Σℕ
letters-none = refl

pub odd-ones : (run w : ℕ) → run < 2 ^ 16 → odd (ones (bit_and run w)) ≡ odd_in run w
unfolding odd_in shared
odd-ones run w h = ap odd (ones_and 16 run w h)

-- ---- a letter beyond

pub beyond-none : (n w : ℕ) → w < 2 ^ n → beyond n w ≡ false
unfolding beyond
beyond-none n w h = some-false 16 _ (λ i l. by i (leb n i) refl)
  where
    by : (i : ℕ) (b : Bool) → leb n i ≡ b → (leb n i && has w i) ≡ false
    by i false e = rw e
    by i true e = rw (e, bit-none n w i h (leb-true n i e))

-- with n letters shifted out, letter i is letter n + i
pub shifted : (n w i : ℕ) → bit (w / 2 ^ n) i ≡ bit w (n + i)
shifted n w i = ap (λ (m : ℕ). m % 2) (div-div-eq-div-mul w (2 ^ n) (2 ^ i) ∙ ap (λ (m : ℕ). w / m) (sym (pow-add 2 n i)))

nothing_left : (n w : ℕ) → w < 2 ^ 16 → beyond n w ≡ false → w / 2 ^ n ≡ 0
unfolding beyond
nothing_left n w h e = bits-ext 16 (w / 2 ^ n) 0 (lt_of_le_of_lt (div-le_self w (2 ^ n)) h) (omega arith) (λ i l. at i ∙ sym (empty i))
  where
    empty : (i : ℕ) → is_set 0 i ≡ false
    empty i = rw (zero-div (2 ^ i))

    at : (i : ℕ) → is_set (w / 2 ^ n) i ≡ false
    at i = rw (shifted n w i) (by (leb 16 (n + i)) refl)
      where
        by : (b : Bool) → leb 16 (n + i) ≡ b → is_set w (n + i) ≡ false
        by false l = rw (le-leb n (n + i) (omega arith)) at (none-at 16 (λ j. leb n j && has w j) e (n + i) (leb-false 16 (n + i) l))
        by true l = rw (bit-none 16 w (n + i) h (leb-true 16 (n + i) l))

pub within : (n w : ℕ) → w < 2 ^ 16 → beyond n w ≡ false → w < 2 ^ n
within n w h e =
    let z : w / 2 ^ n < 1 = omega (arith, nothing_left n w h e) in
    subst (λ (m : ℕ). w < m) (one-mul (2 ^ n)) ((div-lt_iff_lt-mul (one-le-pow n 2 (zero-lt-suc 1))).0 z)

pub beyond-shifted : (n w : ℕ) → w < 2 ^ 16 → not (eqb (w / 2 ^ n) 0) ≡ beyond n w
beyond-shifted n w h = by (beyond n w) refl
  where
    by : (b : Bool) → beyond n w ≡ b → not (eqb (w / 2 ^ n) 0) ≡ b
    by false e = rw (nothing_left n w h e)
    by true e = rw (ne_eqb (w / 2 ^ n) 0 (λ z. true≢false (sym e ∙ beyond-none n w (below z))))
      where
        below : w / 2 ^ n ≡ 0 → w < 2 ^ n
        below z = subst (λ (m : ℕ). w < m) (one-mul (2 ^ n)) ((div-lt_iff_lt-mul (one-le-pow n 2 (zero-lt-suc 1))).0 (let y : w / 2 ^ n < 1 = omega (arith, z) in y))

pub beyond-most : (n w : ℕ) → w < 2 ^ 16 → 16 ≤ n → beyond n w ≡ false
beyond-most n w h l = beyond-none n w (lt_of_lt_of_le h (pow-le-pow_right {n = 2} (zero-lt-suc 1) l))

pub no-letter : (k w : ℕ) → beyond k w ≡ false → (i : ℕ) → i < 16 → k ≤ i → letter w i ≡ 0
unfolding beyond
no-letter k w e i l h = bit-unset w i (rw (le-leb k i h) at (none-at 16 (λ j. leb k j && has w j) e i l))

pub odd-same : (m n : ℕ) → odd m ≡ odd n → m % 2 ≡ n % 2
odd-same m n e =
    sym (digit (m % 2) (mod-lt m (zero-lt-suc 1))) ∙ ap (λ (b : Bool). cond b 1 0) e ∙ digit (n % 2) (mod-lt n (zero-lt-suc 1))

pub shared-none : (r : ℕ) → shared r 0 ≡ 0
unfolding shared
shared-none r = Σℕ-none 16 (λ i. letter r i * letter 0 i) (λ i l. rw (zero-div (2 ^ i)) (mul-zero (letter r i)))

pub shared-first : (n r w : ℕ) → n ≤ 16 → w < 2 ^ n → shared r w ≡ Σℕ n (λ i. letter r i * letter w i)
unfolding shared
shared-first n r w h l = Σℕ-upto n 16 (λ i. letter r i * letter w i) h (λ i g. rw (bit-none n w i l g) (mul-zero (letter r i)))

pub one-letter : (i j : ℕ) → i < 16 → j < 16 → letter (2 ^ i) j ≡ cond (eqb i j) 1 0
unfolding bits
one-letter i j h l =
    let e : bits 16 (λ m. eqb i m) ≡ 2 ^ i = Σℕ-one 16 i (λ m. 2 ^ m) h in
    sym (digit (letter (2 ^ i) j) (bit-lt (2 ^ i) j)) ∙ ap (λ (b : Bool). cond b 1 0) (rw e at (bits_at 16 (λ m. eqb i m) j l))
