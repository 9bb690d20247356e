-- Laws on odd and even numbers of letters.
--
--   odd-add      whether a sum is odd
--   odd-swap     a run and a word may be exchanged
--   none-odd     no word is odd in the run without high letters
--   lows-shared  a word's letters are those that are low in the run, and those that are high
--   plus-odd     whether a run counts plus, by the letters that are high: the sign turns once for each letter of the word
--   letters-one  the word of one letter has one
--   one-odd      it is odd in a run exactly where that letter is high
--   one-plus     and there the run counts plus
use Rattle.std.specs.Prelude.{◌≡◌, refl, Bool, true, false, cond, not, ℕ, zero, suc, ◌+◌, ◌*◌, ◌-◌, ◌%◌, ◌^◌, ◌<◌, eqb}
use Rattle.std.proofs.Common.{sym, ap, ◌∙◌, mul_comm, mod-eq_of_lt, arith, eq-eqb, ne_eqb, eqb-true}
use Rattle.std.proofs.lemmas.Bool.{eqb-false}
use Rattle.algebra.specs.Laws.Naturals.{Σℕ-add, Σℕ-cong, Σℕ-one}
use Rattle.algebra.specs.Laws.Bits.{bit-lt}
use Rattle.words.specs.Words.{letter, has, letters, odd, odd_word, shared, odd_in, lows, plus_in}
use Rattle.words.specs.Laws.Letters.{one-letter, shared-none}

pub odd-add : (a b : ℕ) → odd (a + b) ≡ cond (odd b) (not (odd a)) (odd a)
odd-add a b = by (odd a) (odd b) refl refl
  where
    by : (x y : Bool) → odd a ≡ x → odd b ≡ y → odd (a + b) ≡ cond y (not x) x
    by true true p q = ne_eqb ((a + b) % 2) 1 (λ e. omega (arith, e, eqb-true (a % 2) 1 p, eqb-true (b % 2) 1 q))
    by true false p q = eq-eqb ((a + b) % 2) 1 (omega (arith, eqb-true (a % 2) 1 p, eqb-false (b % 2) 1 q))
    by false true p q = eq-eqb ((a + b) % 2) 1 (omega (arith, eqb-false (a % 2) 1 p, eqb-true (b % 2) 1 q))
    by false false p q = ne_eqb ((a + b) % 2) 1 (λ e. omega (arith, e, eqb-false (a % 2) 1 p, eqb-false (b % 2) 1 q))

pub odd-swap : (a b : ℕ) → odd_in a b ≡ odd_in b a
unfolding odd_in shared
odd-swap a b = ap odd (Σℕ-cong 16 (λ i h. mul_comm (letter a i) (letter b i)))

pub none-odd : (w : ℕ) → odd_in 0 w ≡ false
unfolding odd_in
none-odd w = odd-swap 0 w ∙ rw (shared-none w) refl

-- ---- letters that are low, and those that are high

-- x a letter of the word, y whether it is high
low_or_high : (x y : ℕ) → y < 2 → x * (1 - y) + y * x ≡ x
low_or_high x zero h = omega arith
low_or_high x (suc zero) h = omega arith
low_or_high x (suc (suc y)) h = absurd (omega (arith, h))

pub lows-shared : (run w : ℕ) → lows run w + shared run w ≡ letters w
unfolding lows shared letters
lows-shared run w =
    sym (Σℕ-add 16 (λ i. letter w i * (1 - letter run i)) (λ i. letter run i * letter w i))
    ∙ Σℕ-cong 16 (λ i h. low_or_high (letter w i) (letter run i) (bit-lt run i))

-- an odd number of letters, by whether those that are low and those that are high are odd
turns-back : (low high : Bool) → not low ≡ cond (cond high (not low) low) high (not high)
turns-back true true = refl
turns-back true false = refl
turns-back false true = refl
turns-back false false = refl

pub plus-odd : (run w : ℕ) → plus_in run w ≡ cond (odd_word w) (odd_in run w) (not (odd_in run w))
unfolding plus_in odd_in
plus-odd run w =
    turns-back (odd (lows run w)) (odd (shared run w))
    ∙ ap (λ (t : Bool). cond t (odd (shared run w)) (not (odd (shared run w))))
    (sym (odd-add (lows run w) (shared run w)) ∙ ap odd (lows-shared run w))

-- ---- one letter

one-shared : (run i : ℕ) → i < 16 → shared run (2 ^ i) ≡ letter run i
unfolding shared
one-shared run i h = Σℕ-cong 16 (λ j l. rw (one-letter i j h l) (times (eqb i j) (letter run j))) ∙ Σℕ-one 16 i (letter run) h
  where
    times : (b : Bool) (m : ℕ) → m * cond b 1 0 ≡ cond b m 0
    times true m = omega arith
    times false m = omega arith

pub one-odd : (run i : ℕ) → i < 16 → odd_in run (2 ^ i) ≡ has run i
unfolding odd_in
one-odd run i h = rw (one-shared run i h, mod-eq_of_lt (bit-lt run i))

pub letters-one : (i : ℕ) → i < 16 → letters (2 ^ i) ≡ 1
unfolding letters
letters-one i h = Σℕ-cong 16 (λ j l. one-letter i j h l) ∙ Σℕ-one 16 i (λ j. 1) h

pub one-plus : (run i : ℕ) → i < 16 → plus_in run (2 ^ i) ≡ has run i
one-plus run i h = plus-odd run (2 ^ i) ∙ rw (letters-one i h) (one-odd run i h)
