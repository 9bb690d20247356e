-- Laws on binary digits, and what the machine's `^`, `&` and count of ones make of them.
--
--   digit                  a digit by the test whether it is 1
--   bit-zero, bit-suc      the lowest digit, and the digits of the rest
--   bits-lt, bits_at       `bits n f` is below 2 ^ n, and has those digits
--   bits-all               a number below 2 ^ n is that of its own digits
--   bits-cong, bits-ext    equal tests make equal numbers, and so do equal digits
--   bit-lt, bit-none       a digit is 0 or 1; a number below 2 ^ n has none from n on
--   bit-mod                the digits of a remainder by 2 ^ k
--   bit-unset              a digit that is not 1 is 0
--   bit-xor, bit-and       the digits of a ^ b, and of a & b
--   xor-none, xor-back     numbers of which a ^ b is 0 are the same; a ^ b ^ a is b
--   ones-bits, ones_and    the count of ones is the sum of the digits; in a & b, of products of digits
use Rattle.std.specs.Prelude.{◌≡◌, refl, Bool, true, false, cond, ℕ, zero, suc, ◌+◌, ◌*◌, ◌-◌, ◌/◌, ◌%◌, ◌^◌, ◌<◌, ◌≤◌, min, eqb}
use Rattle.std.proofs.Common.{sym, ap, ap₂, ◌∙◌, subst, div-one, div-lt_iff_lt-mul, pow-suc, lt_of_lt_of_le, mod-lt, zero-lt-suc, arith}
use Rattle.std.proofs.Math.Nat.{div-div-eq-div-mul, div-eq_of_lt, pow-succ', pow-le-pow_right}
use Rattle.std.proofs.Math.Arith.{lt-one}
use Rattle.std.specs.Int.Bits.{bit_and, bit_xor, and_step, xor_add_and}
use Rattle.std.proofs.lemmas.Nat.{and_shr, xor_shr, and_le_l, and_le_r, xor_lt}
use Rattle.std.proofs.Math.Pow.{field, mod-mod-pow}
use Rattle.std.specs.Int.Count.{ones, ones_step}
use Rattle.std.proofs.lemmas.Bool.{eqb-false}
use Rattle.algebra.specs.Naturals.{Σℕ}
use Rattle.algebra.specs.Laws.Naturals.{Σℕ-first, Σℕ-cong, Σℕ-mul}
use Rattle.algebra.specs.Bits.{bit, is_set, bits}

-- ---- the lowest digit, and the rest

pub bit-zero : (w : ℕ) → bit w zero ≡ w % 2
bit-zero w = ap (λ (n : ℕ). n % 2) (div-one w)

pub bit-suc : (w i : ℕ) → bit w (suc i) ≡ bit (w / 2) i
bit-suc w i = ap (λ (n : ℕ). n % 2) (ap (λ (p : ℕ). w / p) (pow-succ' 2 i) ∙ sym (div-div-eq-div-mul w 2 (2 ^ i)))

half_lt : (n w : ℕ) → w < 2 ^ suc n → w / 2 < 2 ^ n
half_lt n w h = (div-lt_iff_lt-mul (zero-lt-suc 1)).1 (subst (λ (m : ℕ). w < m) (pow-suc 2 n) h)

bits-suc : (n : ℕ) (f : ℕ → Bool) → bits (suc n) f ≡ cond (f 0) 1 0 + 2 * bits n (λ i. f (suc i))
unfolding bits
bits-suc n f =
    Σℕ-first n (λ i. cond (f i) (2 ^ i) 0)
    ∙ ap (λ (m : ℕ). cond (f 0) 1 0 + m) (Σℕ-cong n (λ i h. twice (f (suc i)) i) ∙ Σℕ-mul 2 n (λ i. cond (f (suc i)) (2 ^ i) 0))
  where
    twice : (b : Bool) (i : ℕ) → cond b (2 ^ suc i) 0 ≡ 2 * cond b (2 ^ i) 0
    twice true i = pow-succ' 2 i
    twice false i = refl

-- ---- the number of a set

bool_lt : (b : Bool) → cond b 1 0 < 2
bool_lt true = omega arith
bool_lt false = omega arith

bool-one : (b : Bool) → eqb (cond b 1 0) 1 ≡ b
bool-one true = refl
bool-one false = refl

pub bits-lt : (n : ℕ) (f : ℕ → Bool) → bits n f < 2 ^ n
unfolding bits Σℕ
bits-lt zero f = omega arith
bits-lt (suc n) f =
    rw (bits-suc n f)
    (omega (arith, bool_lt (f 0), bits-lt n (λ i. f (suc i)), pow-succ' 2 n))

lowest-digit : (x m : ℕ) → x < 2 → (x + 2 * m) % 2 ≡ x
lowest-digit x m h = omega arith

other-digits : (x m : ℕ) → x < 2 → (x + 2 * m) / 2 ≡ m
other-digits x m h = omega arith

pub bits_at : (n : ℕ) (f : ℕ → Bool) (i : ℕ) → i < n → is_set (bits n f) i ≡ f i
bits_at zero f i h = absurd (omega (arith, h))
bits_at (suc n) f zero h =
    rw (bit-zero (bits (suc n) f), bits-suc n f, lowest-digit (cond (f 0) 1 0) (bits n (λ i. f (suc i))) (bool_lt (f 0)))
    (bool-one (f 0))
bits_at (suc n) f (suc i) h =
    rw (bit-suc (bits (suc n) f) i, bits-suc n f, other-digits (cond (f 0) 1 0) (bits n (λ i. f (suc i))) (bool_lt (f 0)))
    (bits_at n (λ i. f (suc i)) i (omega arith))

pub bits-cong : (n : ℕ) {f g : ℕ → Bool} → ((i : ℕ) → i < n → f i ≡ g i) → bits n f ≡ bits n g
unfolding bits
bits-cong n h = Σℕ-cong n (λ i l. ap (λ (b : Bool). cond b (2 ^ i) 0) (h i l))

pub digit : (x : ℕ) → x < 2 → cond (eqb x 1) 1 0 ≡ x
digit zero h = refl
digit (suc zero) h = refl
digit (suc (suc x)) h = absurd (omega (arith, h))

pub bits-all : (n w : ℕ) → w < 2 ^ n → bits n (is_set w) ≡ w
unfolding bits Σℕ
bits-all zero w h = sym (lt-one h)
bits-all (suc n) w h =
    bits-suc n (is_set w)
    ∙ rw (
      bit-zero w,
      digit (w % 2) (mod-lt w (zero-lt-suc 1)),
      bits-cong n {f = λ i. is_set w (suc i)} {g = is_set (w / 2)} (λ i l. ap (λ (x : ℕ). eqb x 1) (bit-suc w i)),
      bits-all n (w / 2) (half_lt n w h),
    )
    (omega arith)

pub bit-lt : (w i : ℕ) → bit w i < 2
bit-lt w i = mod-lt (w / 2 ^ i) (zero-lt-suc 1)

pub bit-none : (n w i : ℕ) → w < 2 ^ n → n ≤ i → bit w i ≡ 0
bit-none n w i h l = ap (λ (m : ℕ). m % 2) (div-eq_of_lt (lt_of_lt_of_le h (pow-le-pow_right {n = 2} (zero-lt-suc 1) l)))

-- the digits below k are those of the remainder
pub bit-mod : (w k i : ℕ) → i < k → bit (w % 2 ^ k) i ≡ bit w i
bit-mod w k i h =
    let e : k ≡ (k - i - 1 + 1) + i = omega arith in
    ap (λ (n : ℕ). w % 2 ^ n / 2 ^ i % 2) e
    ∙ ap (λ (n : ℕ). n % 2) (field w (k - i - 1 + 1) i)
    ∙ mod-mod-pow (w / 2 ^ i) (k - i - 1) 1

pub bit-unset : (w i : ℕ) → is_set w i ≡ false → bit w i ≡ 0
bit-unset w i e = omega (arith, bit-lt w i, eqb-false (bit w i) 1 e)

pub bits-ext : (n a b : ℕ) → a < 2 ^ n → b < 2 ^ n → ((i : ℕ) → i < n → is_set a i ≡ is_set b i) → a ≡ b
bits-ext n a b h k e = sym (bits-all n a h) ∙ bits-cong n e ∙ bits-all n b k

-- ---- the machine's operations

pub bit-xor : (a b i : ℕ) → bit (bit_xor a b) i ≡ (bit a i + bit b i) % 2
bit-xor a b i = rw (xor_shr a b i) (last (a / 2 ^ i) (b / 2 ^ i))
  where
    last : (x y : ℕ) → bit_xor x y % 2 ≡ (x % 2 + y % 2) % 2
    last x y = omega (arith, xor_add_and x y)

pub xor-none : (a b : ℕ) → bit_xor a b ≡ 0 → a ≡ b
xor-none a b e = omega (arith, xor_add_and a b, e, and_le_l a b, and_le_r a b)

pub xor-back : (n a b : ℕ) → a < 2 ^ n → b < 2 ^ n → bit_xor (bit_xor a b) a ≡ b
xor-back n a b h l = bits-ext n (bit_xor (bit_xor a b) a) b (xor_lt n (bit_xor a b) a (xor_lt n a b h l) h) l (λ i m. ap (λ (d : ℕ). eqb d 1) (at i))
  where
    at : (i : ℕ) → bit (bit_xor (bit_xor a b) a) i ≡ bit b i
    at i = omega (arith, bit-xor (bit_xor a b) a i, bit-xor a b i, bit-lt a i, bit-lt b i)

pub bit-and : (a b i : ℕ) → bit (bit_and a b) i ≡ bit a i * bit b i
bit-and a b i =
    rw (and_shr a b i)
    (last (a / 2 ^ i) (b / 2 ^ i) ∙ min-mul (bit a i) (bit b i) (bit-lt a i) (bit-lt b i))
  where
    last : (x y : ℕ) → bit_and x y % 2 ≡ min (x % 2) (y % 2)
    last x y = rw (and_step x y) (omega arith)

    min-mul : (x y : ℕ) → x < 2 → y < 2 → min x y ≡ x * y
    min-mul zero y h k = omega arith
    min-mul (suc zero) y h k = omega arith
    min-mul (suc (suc x)) y h k = absurd (omega (arith, h))

pub ones-bits : (n w : ℕ) → w < 2 ^ n → ones w ≡ Σℕ n (bit w)
unfolding Σℕ ones
ones-bits zero w h = ap ones (lt-one h)
ones-bits (suc n) w h =
    ones_step w
    ∙ ap₂ (λ (x y : ℕ). x + y) (sym (bit-zero w)) (ones-bits n (w / 2) (half_lt n w h) ∙ Σℕ-cong n (λ i l. sym (bit-suc w i)))
    ∙ sym (Σℕ-first n (bit w))

pub ones_and : (n a b : ℕ) → a < 2 ^ n → ones (bit_and a b) ≡ Σℕ n (λ i. bit a i * bit b i)
ones_and n a b h = ones-bits n (bit_and a b) (omega (arith, and_le_l a b)) ∙ Σℕ-cong n (λ i l. bit-and a b i)
