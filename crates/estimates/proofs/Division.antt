-- The division of a total by a power of two, as code makes it: both are cast to doubles, and the quotient of the two is rounded.
--
--   number-held, power-held    the casts are of whole numbers that a double holds
--   divided                    the rounding changes nothing
use mathlib.Core.Path.{◌≡◌, refl, sym, ap, ◌∙◌}
use mathlib.Core.Bool.{Bool, true, false}
use Prim.Native.Nat.{ℕ, zero, suc, ◌+◌, ◌*◌, ◌-◌, ◌%◌, ◌^◌, ◌<◌, ◌≤◌}
use native.Mathlib.Nat.{mul-one, mul_assoc, mul_comm, mul_left_comm, mul-pos, zero-lt-suc, le_of_lt, lt_of_lt_of_le}
use native.Mathlib.Omega.{arith}
use lib.Dec.{T, eqb-suc-zero, le→leb, lt→ltb}
use lib.IntN.{ℤ, pos, negsuc, nat_abs}
use lib.Pow.{pow-add, pow_pos, pow_mono, shl_lt}
use lib.Ieee.{inf, nan, Float, fin, Format, binary64, up, down, unlike, round, div, of_int, in_float}
use lib.Ieee.Back.{round_whole}
use lib.Ieee.Exact.{HasValue, round_exact}
use lib.Ieee.Fits.{up_pos, down_pos, round-fits}
use lib.Ieee.Scale.{round_same}
use mir.Facts.{to_z-of_z}
use mir.Syntax.{w64}
use mir.Val.{SFits}
use Rattle.algebra.specs.Laws.Gathered.{one_shifted}
use Rattle.algebra.specs.Laws.Machine.{wrap}
use Rattle.estimates.specs.Quotient.{negative, quotient, InDouble}
use Rattle.estimates.proofs.Laws.Exact.{exact, of-value}

-- ---- the quotient of two doubles that are whole numbers is the fraction, rounded once

-- the sign of a quotient by a positive number
same_sign : (s : Bool) → unlike s false ≡ s
same_sign true = refl
same_sign false = refl

not-zero : (b : ℕ) (d : ℤ) → 0 < b → zero * up d * 1 ≡ b * down d → ⊥
not-zero b d h e = omega (arith, e, mul-pos h (down_pos d))

-- x / y is a and n / z is b, so their quotient, x z / (n y), is a / b
fraction : (x y n z a b : ℕ) → x * 1 ≡ a * y → n * 1 ≡ b * z → x * z * b ≡ a * (n * y)
fraction x y n z a b h k =
    let p : x ≡ a * y = sym (mul-one x) ∙ h in
    let q : n ≡ b * z = sym (mul-one n) ∙ k in
    rw (p, q) (simp (mul_assoc, mul_comm, mul_left_comm))

over : (f : Format) (x y : Float) (s : Bool) (a b : ℕ) → 0 < b → HasValue x s a 1 → HasValue y false b 1 → div f x y ≡ round f s a b
unfolding div
over f nan y s a b h v w = elim v [ ]
over f (inf _) y s a b h v w = elim v [ ]
over f (fin t m e) nan s a b h v w = elim w [ ]
over f (fin t m e) (inf _) s a b h v w = elim w [ ]
over f (fin t m e) (fin u zero d) s a b h v w = absurd (not-zero b d h w.1)
over f (fin t m e) (fin u (suc n) d) s a b h v w =
    let num = m * up e * down d in
    let den = suc n * up d * down e in
    let positive : 0 < den = mul-pos (mul-pos (zero-lt-suc n) (up_pos d)) (down_pos e) in
    rw (eqb-suc-zero n, w.0, same_sign t, v.0)
    (round_same f s num den a b positive h (fraction (m * up e) (down e) (suc n * up d) (down d) a b v.1 w.1))

-- ---- the fraction, rounded, is the double that `quotient` names

rounded : (t : ℤ) (j : ℕ) → nat_abs t < 2 ^ 53 → j ≤ 1074 → round binary64 (negative t) (nat_abs t) (2 ^ j) ≡ quotient t j
rounded t j h k =
    let s = negative t in
    let n = nat_abs t in
    let room : 53 + (1074 - j) ≤ 2098 = omega arith in
    let back : 1074 - j + j ≡ 1074 = omega arith in
    (exact t j h k).only (round binary64 s n (2 ^ j)) (round-fits binary64 s n (2 ^ j))
    (of-value t (2 ^ j) (round binary64 s n (2 ^ j))
    (round_exact binary64 s n (2 ^ j) n (1074 - j) (pow_pos j) h (lt_of_lt_of_le (shl_lt 53 (1074 - j) h) (pow_mono room))
    (ap (λ (x : ℕ). n * 2 ^ x) (sym back) ∙ ap (λ (x : ℕ). n * x) (pow-add 2 (1074 - j) j) ∙ sym (mul_assoc n (2 ^ (1074 - j)) (2 ^ j)))))

whole : (t : ℤ) → of_int binary64 t ≡ round binary64 (negative t) (nat_abs t) 1
unfolding of_int
whole (pos n) = refl
whole (negsuc n) = refl

in-double : (t : ℤ) → nat_abs t ≤ 2 ^ 53 → T (in_float binary64 t)
unfolding in_float
in-double (pos n) h = le→leb n (2 ^ 53) h
in-double (negsuc n) h = lt→ltb n (2 ^ 53) h

-- ---- the code's numbers

module _ {t : ℤ} {j : ℕ} (f : SFits w64 t) (h : InDouble t j) where
  power : 1 * 2 ^ j % 2 ^ 64 ≡ 2 ^ j
  power = one_shifted j 64 (omega (arith, h.power))

  small : 2 ^ j ≤ 2 ^ 53
  small = pow_mono {i = j} {j = 53} (omega (arith, h.power))

  pub number-held : T (in_float binary64 (wrap t))
  number-held = rw (to_z-of_z f) (in-double t (le_of_lt h.number))

  pub power-held : T (in_float binary64 (pos (1 * 2 ^ j % 2 ^ 64)))
  power-held = rw power (in-double (pos (2 ^ j)) small)

  pub divided : div binary64 (of_int binary64 (wrap t)) (of_int binary64 (pos (1 * 2 ^ j % 2 ^ 64))) ≡ quotient t j
  divided =
      rw (power, to_z-of_z f, whole t, whole (pos (2 ^ j)))
      (over binary64 (round binary64 (negative t) (nat_abs t) 1) (round binary64 false (2 ^ j) 1) (negative t) (nat_abs t) (2 ^ j) (pow_pos j)
      (round_whole binary64 (negative t) (nat_abs t) (le_of_lt h.number))
      (round_whole binary64 false (2 ^ j) small)
      ∙ rounded t j h.number (omega (arith, h.power)))
