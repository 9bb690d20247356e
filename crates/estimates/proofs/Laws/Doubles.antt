-- A number has one double: `fits` of the kit asks that a value is written m * 2 ^ e with an odd m, or with e = 0 where m = 0.
--
--   one-double    two values that fit, have one sign and are equal in size are one
use Rattle.std.specs.Prelude.{◌≡◌, refl, Bool, ◌&&◌, ℕ, zero, suc, ◌+◌, ◌*◌, ◌%◌, ◌^◌, ◌<◌, T, eqb, ltb, leb, ℤ, pos, negsuc}
use Rattle.std.proofs.Common.{sym, ap, ◌∙◌, mul-one, one-mul, mul-pos, zero-lt-suc, mul_assoc, mul_left_comm, arith, eqb→eq, pow-add}
use Rattle.std.proofs.Math.Nat.{pow-succ'}
use Rattle.std.specs.Float.{fin, Format}
use Rattle.std.specs.Float.Ieee.{prec, emax, low, up, down, fits}
use Rattle.std.specs.Float.Ieee.Fits.{up_pos, down_pos, and_l}

-- ---- an odd number times a power of two

even : (m n : ℕ) → m % 2 ≡ 1 → m ≡ 2 * n → ⊥
even m n o h = omega arith

halves : (m n : ℕ) → 2 * m ≡ 2 * n → m ≡ n
halves m n h = omega arith

twice : (m a : ℕ) → m * 2 ^ suc a ≡ 2 * (m * 2 ^ a)
twice m a = ap (λ (x : ℕ). m * x) (pow-succ' 2 a) ∙ mul_left_comm m 2 (2 ^ a)

odd_power : (m n a b : ℕ) → m % 2 ≡ 1 → n % 2 ≡ 1 → m * 2 ^ a ≡ n * 2 ^ b → (m ≡ n) × (a ≡ b)
odd_power m n zero zero o p h = (sym (mul-one m) ∙ h ∙ mul-one n, refl)
odd_power m n zero (suc b) o p h = absurd (even m (n * 2 ^ b) o (sym (mul-one m) ∙ h ∙ twice n b))
odd_power m n (suc a) zero o p h = absurd (even n (m * 2 ^ a) p (sym (mul-one n) ∙ sym h ∙ twice m a))
odd_power m n (suc a) (suc b) o p h =
    let r = odd_power m n a b o p (halves (m * 2 ^ a) (n * 2 ^ b) (sym (twice m a) ∙ h ∙ twice n b)) in
    (r.0, ap suc r.1)

shift : (m a b : ℕ) → m * 2 ^ (a + b) ≡ m * 2 ^ a * 2 ^ b
shift m a b = ap (λ (x : ℕ). m * x) (pow-add 2 a b) ∙ sym (mul_assoc m (2 ^ a) (2 ^ b))

-- m * 2 ^ e is n * 2 ^ g, each power as the fraction up / down
same : (m n : ℕ) (e g : ℤ) → m % 2 ≡ 1 → n % 2 ≡ 1 → m * up e * down g ≡ n * up g * down e → (m ≡ n) × (e ≡ g)
same m n (pos a) (pos b) o p h =
    let r = odd_power m n a b o p (sym (mul-one (m * 2 ^ a)) ∙ h ∙ mul-one (n * 2 ^ b)) in
    (r.0, ap pos r.1)
same m n (pos a) (negsuc b) o p h =
    let r = odd_power m n (a + suc b) 0 o p (shift m a (suc b) ∙ h ∙ mul-one (n * 1)) in
    absurd (omega (arith, r.1))
same m n (negsuc a) (pos b) o p h =
    let r = odd_power n m (b + suc a) 0 p o (shift n b (suc a) ∙ sym h ∙ mul-one (m * 1)) in
    absurd (omega (arith, r.1))
same m n (negsuc a) (negsuc b) o p h =
    let r = odd_power m n (suc b) (suc a) o p (ap (λ (x : ℕ). x * 2 ^ suc b) (sym (mul-one m)) ∙ h ∙ ap (λ (x : ℕ). x * 2 ^ suc a) (mul-one n)) in
    (r.0, ap negsuc (omega (arith, r.1)))

-- ---- what a value that fits is written as

is_odd : (f : Format) (s : Bool) (m : ℕ) (e : ℤ) → T (fits f (fin s (suc m) e)) → suc m % 2 ≡ 1
unfolding fits
is_odd f s m e t =
    let a : Bool = eqb (suc m % 2) 1 in
    let b : Bool = ltb (suc m) (2 ^ prec f) in
    let c : Bool = leb (down e) (2 ^ low f) in
    let d : Bool = ltb (suc m * up e) (2 ^ suc (emax f) * down e) in
    eqb→eq (suc m % 2) 1 (and_l a b (and_l (a && b) c (and_l (a && b && c) d t)))

flat : (e : ℤ) → up e * down e ≡ 1 → e ≡ pos 0
flat (pos zero) h = refl
flat (pos (suc k)) h = absurd (even 1 (2 ^ k) refl (sym h ∙ mul-one (2 ^ suc k) ∙ pow-succ' 2 k))
flat (negsuc k) h = absurd (even 1 (2 ^ k) refl (sym h ∙ one-mul (2 ^ suc k) ∙ pow-succ' 2 k))

zero_exponent : (f : Format) (s : Bool) (e : ℤ) → T (fits f (fin s zero e)) → e ≡ pos 0
unfolding fits
zero_exponent f s e t = flat e (eqb→eq (up e * down e) 1 t)

not-zero : (n : ℕ) (e g : ℤ) → suc n * up g * down e ≡ zero * up e * down g → ⊥
not-zero n e g h =
    let l : 0 < suc n * up g * down e = mul-pos (mul-pos (zero-lt-suc n) (up_pos g)) (down_pos e) in
    omega (arith, l, h)

pub one-double : (f : Format) (s : Bool) (m n : ℕ) (e g : ℤ) → T (fits f (fin s m e)) → T (fits f (fin s n g))
    → m * up e * down g ≡ n * up g * down e → fin s m e ≡ fin s n g
one-double f s zero zero e g p q h = ap (fin s zero) (zero_exponent f s e p ∙ sym (zero_exponent f s g q))
one-double f s zero (suc n) e g p q h = absurd (not-zero n e g (sym h))
one-double f s (suc m) zero e g p q h = absurd (not-zero m g e h)
one-double f s (suc m) (suc n) e g p q h =
    let r = same (suc m) (suc n) e g (is_odd f s m e p) (is_odd f s n g q) h in
    λ i. fin s (r.0 i) (r.1 i)
