-- "The double is exactly that quotient; a zero total gives positive zero."
--
--   of-value         `IsQuotient` from the kit's own terms
--   exact            `quotient t j` is exactly t / 2 ^ j, for every t below 2 ^ 53 in size
--   positive-zero    and where t is 0 it is positive zero
use Rattle.std.specs.Prelude.{◌≡◌, refl, Bool, true, false, ℕ, zero, suc, ◌+◌, ◌*◌, ◌-◌, ◌/◌, ◌^◌, ◌<◌, ◌≤◌, T, leb, ℤ, pos, negsuc, nat_abs, Float}
use Rattle.std.proofs.Common.{sym, ap, ◌∙◌, subst, mul-one, mul_right_comm, le_of_lt, lt_of_lt_of_le, arith, le-leb, leb-true, leb-false, pow_pos, pow_mono, shl_lt}
use Rattle.std.proofs.Math.Nat.{eq_of_mul-eq-mul_right}
use Rattle.std.proofs.lemmas.Bool.{lt-leb}
use Rattle.std.specs.Int.Count.{count_trailing_zeros}
use Rattle.std.specs.Float.Ieee as ieee
use Rattle.std.specs.Float.{nan, inf, fin, binary64}
use Rattle.std.specs.Float.Ieee.{up, down, minus, fits}
use Rattle.std.specs.Float.Ieee.Exact.{HasValue, odd_sign}
use Rattle.std.specs.Float.Ieee.Fits.{odd-fits}
use Rattle.estimates.specs.Quotient.{negative, IsQuotient, Exactly, double, quotient, positive_zero}
use Rattle.estimates.proofs.Laws.Doubles.{one-double}

pub of-value : (t : ℤ) (d : ℕ) (x : Float) → HasValue x (negative t) (nat_abs t) d → IsQuotient t d x
of-value t d nan v = absurd v
of-value t d (inf s) v = absurd v
of-value t d (fin s m e) v = record { digits = m; exponent = e; finite = ap (λ (b : Bool). fin b m e) v.0; times = v.1 }

-- ---- no other double

-- x / p and y / q are both a / c
cross : (x y p q a c : ℕ) → 0 < c → x * c ≡ a * p → y * c ≡ a * q → x * q ≡ y * p
cross x y p q a c h k l =
    eq_of_mul-eq-mul_right c h (x * q) (y * p)
    (mul_right_comm x q c
    ∙ ap (λ (z : ℕ). z * q) k
    ∙ mul_right_comm a p q
    ∙ ap (λ (z : ℕ). z * p) (sym l)
    ∙ mul_right_comm y c p)

unique : {t : ℤ} {d : ℕ} {x y : Float} → 0 < d → T (fits binary64 x) → T (fits binary64 y) → IsQuotient t d x → IsQuotient t d y → x ≡ y
unique {t} {d} some f g v w =
    let m = v.digits in
    let n = w.digits in
    let a = v.exponent in
    let b = w.exponent in
    let p : T (fits binary64 (fin (negative t) m a)) = subst (λ (z : Float). T (fits binary64 z)) v.finite f in
    let q : T (fits binary64 (fin (negative t) n b)) = subst (λ (z : Float). T (fits binary64 z)) w.finite g in
    let c = cross (m * up a) (n * up b) (down a) (down b) (nat_abs t) d some v.times w.times in
    v.finite ∙ one-double binary64 (negative t) m n a b p q c ∙ sym w.finite

-- ---- it is a double

same-exponent : (a b c d : ℕ) → a + d ≡ c + b → minus a b ≡ minus c d
same-exponent a b c d h = by (leb b a) refl
  where
    by : (t : Bool) → leb b a ≡ t → minus a b ≡ minus c d
    by true e =
        let k : b ≤ a = leb-true b a e in
        let l : d ≤ c = omega arith in
        simp (le-leb b a k, le-leb d c l) (ap pos (omega arith))
    by false e =
        let k : a < b = leb-false b a e in
        let l : c < d = omega arith in
        simp (lt-leb b a k, lt-leb d c l) (ap negsuc (omega arith))

-- the same number in units of 2 ^ -l
in-units : (s : Bool) (q j l : ℕ) → j ≤ l → double s q j ≡ ieee.odd 53 s q (l - j) l
unfolding double
in-units s zero j l h = refl
in-units s (suc q) j l h =
    let z = count_trailing_zeros 53 (suc q) in
    ap (fin s (suc q / 2 ^ z)) (same-exponent (0 + z) j (l - j + z) l (omega arith))

is-double : (s : Bool) (n j : ℕ) → n < 2 ^ 53 → j ≤ 1074 → T (fits binary64 (double s n j))
is-double s n j h k =
    let room : 53 + (1074 - j) ≤ 2098 = omega arith in
    rw (in-units s n j 1074 k)
    (odd-fits binary64 53 s n (1074 - j) h (le_of_lt h) (lt_of_lt_of_le (shl_lt 53 (1074 - j) h) (pow_mono room)))

-- ---- the laws

pub exact : (t : ℤ) (j : ℕ) → nat_abs t < 2 ^ 53 → j ≤ 1074 → Exactly t (2 ^ j) (quotient t j)
unfolding quotient
exact t j h k =
    let a : HasValue (quotient t j) (negative t) (nat_abs t * 1) (2 ^ j) = odd_sign 53 (negative t) (nat_abs t) 0 j in
    let v : IsQuotient t (2 ^ j) (quotient t j) = of-value t (2 ^ j) (quotient t j) (rw (mul-one (nat_abs t)) at a) in
    let f : T (fits binary64 (quotient t j)) = is-double (negative t) (nat_abs t) j h k in
    record { value = v; double = f; only = λ y g w. unique (pow_pos j) g f w v }

pub positive-zero : (j : ℕ) → quotient (pos 0) j ≡ positive_zero
unfolding quotient
positive-zero j = refl
