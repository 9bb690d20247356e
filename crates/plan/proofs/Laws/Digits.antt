-- The digits of a three-level plan's block word, one after the other from the lowest on, and the letters that it uses.
--
--   Counting, counting, one-counted, counted            the loop that counts the digits in use
--   Unused, unused, zero-digit, lowest-found, none-used the loop that looks for the lowest of them
--   Collecting, collecting, one-collected, collected    the loop that collects the row of the letters used
--   letter-few, letter-put                              its letters are few
--   Adding, adding, one-added, added-up                 the loop that adds up digit times level
--   product-few                                         each product is small
--   digits-known                                        what the digit rule says of a word that keeps it
--   too_large, too_few, by-lowest                       how code comes to it
--   used-sum, lowest-place, place-lowest, digits-right  the rule by the digits' places, and back
--   letters-used                                        such a word uses letters: its row is not row 0
use Rattle.std.specs.Prelude.{◌≡◌, Bool, true, false, cond, not, ◌||◌, ℕ, zero, suc, ◌+◌, ◌*◌, ◌-◌, ◌/◌, ◌%◌, ◌^◌, ◌<◌, ◌≤◌, eqb, leb, ltb, replicate}
use Rattle.std.proofs.Math.Path.{refl, sym}
use Rattle.std.proofs.Common.{◌∙◌, ap, ap₂, add-zero, zero-add, mul-zero, mul-one, one-mul, mul_comm, mul-le-mul, mul-le-mul_left, pow-suc, add-one, arith}
use Rattle.std.proofs.Math.Nat.{sub-zero, pow-le-pow_right, pow-zero}
use Rattle.std.proofs.Math.Decide.{ℕ_discrete}
use borrow.Author.Tests.{le-leb, lt-leb, lt-ltb, le-ltb, eq-eqb, ne_eqb, eqb-true, leb-false, ltb-false, not-false}
use Rattle.algebra.specs.Naturals.{Σℕ}
use Rattle.algebra.specs.Laws.Naturals.{Σℕ-cong, Σℕ-first}
use Rattle.algebra.specs.Laws.Tests.{neither}
use Rattle.contrasts.proofs.Factors.{three}
use Rattle.contrasts.specs.Rows.{row_of}
use Rattle.contrasts.specs.Blocks.{digit_sum, block_of}
use Rattle.contrasts.proofs.Laws.Blocks.{digits-turn, higher, lowest}
use Rattle.contrasts.proofs.Laws.ThreeLevels.{row-turn-three}
use Rattle.plan.specs.Check.{used_digits, lowest_digit, bad_digits}

-- ---- the loops

-- i of the k digits of word w have been counted, s of them in use; what is left of the word is u
pub record Counting (k w s u i : ℕ) : Type 0 where
  pub inside : i ≤ k
  pub few : s ≤ i
  pub sum : used_digits k w ≡ s + used_digits (k - i) u

-- none of the first i digits is in use; what is left of the word is u
pub record Unused (k w u i : ℕ) : Type 0 where
  pub inside : i ≤ k
  pub same : lowest_digit k w ≡ lowest_digit (k - i) u

-- one digit less is left
one_less : (k i : ℕ) → i < k → k - i ≡ suc (k - (i + 1))
one_less k i h = omega arith

pub counting : (k w : ℕ) → Counting k w 0 w 0
counting k w = record { inside = omega arith; few = omega arith; sum = rw (sub-zero k, zero-add (used_digits k w)) refl }

module _ {k w s u i : ℕ} (a : Counting k w s u i) (h : i < k) where
  sum-next : used_digits k w ≡ s + used_digits (suc (k - (i + 1))) u
  sum-next = rw (one_less k i h) at a.sum

  pub one-counted : {n : ℕ} → (n ≡ cond (eqb (u % 3) 0) 0 1) × (n ≤ 1) → Counting k w (s + n) (u / 3) (i + 1)
  unfolding used_digits
  one-counted {n} e =
      let sum_is : used_digits k w ≡ s + (n + used_digits (k - (i + 1)) (u / 3)) = rw e.0 sum-next in
      record { inside = omega arith; few = omega (arith, a.few, e.1); sum = omega (arith, sum_is) }

pub counted : {k w s u i : ℕ} → Counting k w s u i → k ≤ i → s ≡ used_digits k w
unfolding used_digits
counted {k} {w} {s} {u} {i} a n =
    let e : k - i ≡ 0 = omega (arith, a.inside) in
    sym ((rw e at a.sum) ∙ omega arith)

pub unused : (k w : ℕ) → Unused k w w 0
unused k w = record { inside = omega arith; same = rw (sub-zero k) refl }

module _ {k w u i : ℕ} (a : Unused k w u i) (h : i < k) where
  same_next : lowest_digit k w ≡ lowest_digit (suc (k - (i + 1))) u
  same_next = rw (one_less k i h) at a.same

  pub zero-digit : u % 3 ≡ 0 → Unused k w (u / 3) (i + 1)
  unfolding lowest_digit
  zero-digit z = record { inside = omega arith; same = rw (eq-eqb (u % 3) 0 z) at same_next }

  pub lowest-found : (u % 3 ≡ 0 → ⊥) → u % 3 ≡ lowest_digit k w
  unfolding lowest_digit
  lowest-found n = sym (rw (ne_eqb (u % 3) 0 n) at same_next)

pub none-used : {k w u i : ℕ} → Unused k w u i → k ≤ i → 0 ≡ lowest_digit k w
unfolding lowest_digit
none-used {k} {w} {u} {i} a n =
    let e : k - i ≡ 0 = omega (arith, a.inside) in
    sym (rw e at a.same)

-- of the first i digits the letters in use are in `row`, and the next letter is `letter`; what is left of the word is u
pub record Collecting (k w row letter u i : ℕ) : Type 0 where
  pub inside : i ≤ k
  pub next : letter ≡ 2 ^ i
  pub few : row < letter
  pub sum : row + letter * row_of (replicate (k - i) three) u ≡ row_of (replicate k three) w

-- the first i digits times levels add up to s; what is left of word and run is u and v
pub record Adding (k w r s u v i : ℕ) : Type 0 where
  pub inside : i ≤ k
  pub few : s ≤ 4 * i
  pub sum : s + digit_sum (replicate (k - i) three) u v ≡ digit_sum (replicate k three) w r

pub collecting : (k w : ℕ) → Collecting k w 0 1 w 0
collecting k w =
    record {
      inside = omega arith;
      next = sym (pow-zero 2);
      few = omega arith;
      sum = rw (sub-zero k, one-mul (row_of (replicate k three) w), zero-add (row_of (replicate k three) w)) refl;
    }

module _ {k w row letter u i : ℕ} (a : Collecting k w row letter u i) (h : i < k) where
  -- a letter is put in or left out
  put : {n : ℕ} → n ≡ cond (eqb (u % 3) 0) 0 1 → letter * n ≡ cond (eqb (u % 3) 0) 0 letter
  put {n} e = rw e (by (eqb (u % 3) 0))
    where
      by : (b : Bool) → letter * cond b 0 1 ≡ cond b 0 letter
      by true = mul-zero letter
      by false = mul-one letter

  pub letter-few : k ≤ 6 → letter ≤ 64
  letter-few l = rw a.next (pow-le-pow_right {n = 2} (omega arith) {i = i} {j = 6} (omega arith))

  pub letter-put : {n : ℕ} → n ≤ 1 → letter * n ≤ letter
  letter-put l = rw (mul-one letter) at (mul-le-mul_left letter l)

  pub one-collected : {n : ℕ} → (n ≡ cond (eqb (u % 3) 0) 0 1) × (n ≤ 1) → Collecting k w (row + letter * n) (letter * 2) (u / 3) (i + 1)
  one-collected {n} e =
      let sum_is = row-turn-three k i row letter u h a.sum in
      record {
        inside = omega arith;
        next = rw a.next (sym (rw (add-one i) (pow-suc 2 i)));
        few = omega (arith, letter-put e.1, a.few);
        sum = rw (put e.0, mul_comm letter 2) sum_is;
      }

pub collected : {k w row letter u i : ℕ} → Collecting k w row letter u i → k ≤ i → row ≡ row_of (replicate k three) w
unfolding row_of
collected {k} {w} {row} {letter} {u} {i} a n =
    let e : k - i ≡ 0 = omega (arith, a.inside) in
    sym (add-zero row) ∙ ap (λ m. row + m) (sym (mul-zero letter)) ∙ (rw e at a.sum)

pub adding : (k w r : ℕ) → Adding k w r 0 w r 0
adding k w r = record { inside = omega arith; few = omega arith; sum = rw (sub-zero k, zero-add (digit_sum (replicate k three) w r)) refl }

pub product-few : (u v : ℕ) → (u % 3) * (v % 3) ≤ 4
product-few u v = mul-le-mul (two-at-most u) (two-at-most v)
  where
    two-at-most : (n : ℕ) → n % 3 ≤ 2
    two-at-most n = omega arith

pub one-added : {k w r s u v i : ℕ} → Adding k w r s u v i → i < k → Adding k w r (s + (u % 3) * (v % 3)) (u / 3) (v / 3) (i + 1)
one-added {k} {w} {r} {s} {u} {v} {i} a h =
    record { inside = omega arith; few = omega (arith, a.few, product-few u v); sum = digits-turn k i s u v h a.sum }

pub added-up : {k w r s u v i : ℕ} → Adding k w r s u v i → k ≤ i → s % 3 ≡ block_of (replicate k three) w r
unfolding digit_sum
added-up {k} {w} {r} {s} {u} {v} {i} a n =
    let e : k - i ≡ 0 = omega (arith, a.inside) in
    let all : s ≡ digit_sum (replicate k three) w r = sym (add-zero s) ∙ (rw e at a.sum) in
    ap (λ m. m % 3) all

-- ---- the digit rule

pub digits-known : (k w : ℕ) → bad_digits k w ≡ false → (w < 3 ^ k) × (2 ≤ used_digits k w) × (lowest_digit k w ≡ 1)
unfolding bad_digits
digits-known k w e =
    let a = neither (leb (3 ^ k) w) (ltb (used_digits k w) 2 || not (eqb (lowest_digit k w) 1)) e in
    let b = neither (ltb (used_digits k w) 2) (not (eqb (lowest_digit k w) 1)) a.1 in
    (leb-false (3 ^ k) w a.0, ltb-false (used_digits k w) 2 b.0, eqb-true (lowest_digit k w) 1 (not-false (eqb (lowest_digit k w) 1) b.1))

pub digits-right : (k w : ℕ) → w < 3 ^ k → 2 ≤ used_digits k w → lowest_digit k w ≡ 1 → bad_digits k w ≡ false
unfolding bad_digits
digits-right k w h l e = rw (lt-leb (3 ^ k) w h, le-ltb (used_digits k w) 2 l, e) refl

-- ---- by the digits' places

pub used-sum : (k w : ℕ) → used_digits k w ≡ Σℕ k (λ i. cond (eqb (w / 3 ^ i % 3) 0) 0 1)
unfolding used_digits Σℕ
used-sum zero w = refl
used-sum (suc k) w =
    ap₂ ◌+◌ (ap one (lowest w)) (used-sum k (w / 3) ∙ Σℕ-cong k (λ i _. ap one (higher w i)))
    ∙ sym (Σℕ-first k (λ i. cond (eqb (w / 3 ^ i % 3) 0) 0 1))
  where
    one : ℕ → ℕ
    one n = cond (eqb (n % 3) 0) 0 1

-- the lowest digit is 0, and so are those above it up to a place
zero-below : (w i : ℕ) → w % 3 ≡ 0 → ((j : ℕ) → j < i → w / 3 / 3 ^ j % 3 ≡ 0) → (j : ℕ) → j < suc i → w / 3 ^ j % 3 ≡ 0
zero-below w i z below zero l = ap (λ n. n % 3) (sym (lowest w)) ∙ z
zero-below w i z below (suc j) l = ap (λ n. n % 3) (sym (higher w j)) ∙ below j (omega arith)

pub lowest-place : (k w : ℕ) → lowest_digit k w ≡ 1 → (i : ℕ) × (i < k) × (w / 3 ^ i % 3 ≡ 1) × ((j : ℕ) → j < i → w / 3 ^ j % 3 ≡ 0)
unfolding lowest_digit
lowest-place zero w e = absurd (omega (arith, e))
lowest-place (suc k) w e = by (ℕ_discrete (w % 3) 0) (lowest-place k (w / 3))
  where
    by : Dec (w % 3 ≡ 0)
        → (lowest_digit k (w / 3) ≡ 1 → (i : ℕ) × (i < k) × (w / 3 / 3 ^ i % 3 ≡ 1) × ((j : ℕ) → j < i → w / 3 / 3 ^ j % 3 ≡ 0))
        → (i : ℕ) × (i < suc k) × (w / 3 ^ i % 3 ≡ 1) × ((j : ℕ) → j < i → w / 3 ^ j % 3 ≡ 0)
    by (yes z) r =
        let found = r (rw (eq-eqb (w % 3) 0 z) at e) in
        (suc found.0, omega (arith, found.1), ap (λ n. n % 3) (sym (higher w found.0)) ∙ found.2, zero-below w found.0 z found.3)
    by (no n) r = (0, omega arith, ap (λ m. m % 3) (sym (lowest w)) ∙ (rw (ne_eqb (w % 3) 0 n) at e), λ j l. absurd (omega (arith, l)))

pub place-lowest : (k w i : ℕ) → i < k → w / 3 ^ i % 3 ≡ 1 → ((j : ℕ) → j < i → w / 3 ^ j % 3 ≡ 0) → lowest_digit k w ≡ 1
unfolding lowest_digit
place-lowest zero w i h e below = absurd (omega (arith, h))
place-lowest (suc k) w zero h e below =
    let one : w % 3 ≡ 1 = ap (λ n. n % 3) (lowest w) ∙ e in
    rw (ne_eqb (w % 3) 0 (λ z. omega (arith, one, z))) one
place-lowest (suc k) w (suc i) h e below =
    let z : w % 3 ≡ 0 = ap (λ n. n % 3) (lowest w) ∙ below 0 (omega arith) in
    rw (eq-eqb (w % 3) 0 z)
    (place-lowest k (w / 3) i (omega arith) (ap (λ n. n % 3) (higher w i) ∙ e) (λ j l. ap (λ n. n % 3) (higher w j) ∙ below (suc j) (omega arith)))

-- ---- how code comes to the rule

module _ (k w : ℕ) {n : ℕ} (power : n ≡ 3 ^ k) where
  pub too_large : n ≤ w → true ≡ bad_digits k w
  unfolding bad_digits
  too_large h = rw (le-leb (3 ^ k) w (omega (arith, power, h))) refl

  module _ (h : w < n) {m : ℕ} (used : m ≡ used_digits k w) where
    inside : leb (3 ^ k) w ≡ false
    inside = lt-leb (3 ^ k) w (omega (arith, power, h))

    pub too_few : m < 2 → true ≡ bad_digits k w
    unfolding bad_digits
    too_few l = rw (inside, lt-ltb (used_digits k w) 2 (omega (arith, used, l))) refl

    pub by-lowest : 2 ≤ m → {d : ℕ} → d ≡ lowest_digit k w → not (eqb d 1) ≡ bad_digits k w
    unfolding bad_digits
    by-lowest l e = rw (inside, le-ltb (used_digits k w) 2 (omega (arith, used, l)), e) refl

some-letter : (k w : ℕ) → 0 < used_digits k w → 0 < row_of (replicate k three) w
unfolding used_digits row_of three
some-letter zero w h = absurd (omega (arith, h))
some-letter (suc k) w h = by (eqb (w % 3) 0) h (some-letter k (w / 3))
  where
    by : (b : Bool) → 0 < cond b 0 1 + used_digits k (w / 3) → (0 < used_digits k (w / 3) → 0 < row_of (replicate k three) (w / 3))
        → 0 < row_of (replicate k three) (w / 3) * 2 + cond b 0 1
    by true l f = omega (arith, f (omega (arith, l)))
    by false l f = omega arith

pub letters-used : (k w : ℕ) → bad_digits k w ≡ false → row_of (replicate k three) w ≡ 0 → ⊥
letters-used k w e z = omega (arith, z, some-letter k w (omega (arith, (digits-known k w e).1)))
