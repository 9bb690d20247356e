-- Numbers in decimal, as the library writes them.
--
--   few, more, tenth                 a number below 10 is one digit, and one from 10 on its tenth part and its last digit
--   decimal-told, signed-told        the library's decimal of a number of 64 bits
--   signed-kept                      a value as code holds it is that value
--   decimal-long, signed-long        no number has over 20 digits, and no value over 21 bytes
use Rattle.std.specs.Prelude.{◌≡◌, refl, [], ◌∷◌, ◌++◌, ℕ, zero, suc, ◌+◌, ◌/◌, ◌^◌, ◌<◌, ◌≤◌, ℤ, pos, negsuc, length}
use Rattle.std.proofs.Common.{sym, ap, ◌∙◌, pow-suc, div-lt_iff_lt-mul, lt_of_lt_of_le, arith, lt-ltb, le-ltb, lit<, lit≤, length-append, to_z-of_z, SFits}
use Rattle.std.proofs.Math.Decide.{dec_lt}
use Rattle.std.proofs.lemmas.Fmt.{decimal_digit, decimal_step}
use Rattle.std.specs.Fmt as told
use Rattle.std.specs.Int.{w64}
use Rattle.algebra.specs.Laws.Machine.{wrap}
use Rattle.text.specs.Spelled.{digit, decimal_in, decimal, signed}

pub few : (f n : ℕ) → n < 10 → decimal_in f n ≡ digit n ∷ []
unfolding decimal_in
few zero n h = refl
few (suc f) n h = rw (lt-ltb n 10 h) refl

pub more : (f n : ℕ) → 10 ≤ n → decimal_in (suc f) n ≡ decimal_in f (n / 10) ++ (digit n ∷ [])
unfolding decimal_in
more f n h = rw (le-ltb n 10 h) refl

pub tenth : (f n : ℕ) → n < 10 ^ suc f → n / 10 < 10 ^ f
tenth f n h = (div-lt_iff_lt-mul (lit< tt)).1 (rw (pow-suc 10 f) at h)

-- the last digit of a number below 10 is the number
one_digit : (n : ℕ) → n < 10 → told.decimal n ≡ digit n ∷ []
one_digit n h = decimal_digit n h ∙ ap (λ d. (48 + d) ∷ []) (omega arith)

as-told : (f n : ℕ) → n < 10 ^ suc f → n < 2 ^ 64 → decimal_in f n ≡ told.decimal n
as-told zero n h l = few 0 n h ∙ sym (one_digit n h)
as-told (suc f) n h l = by (dec_lt n 10) (as-told f (n / 10) (tenth (suc f) n h) (omega arith))
  where
    by : Dec (n < 10) → decimal_in f (n / 10) ≡ told.decimal (n / 10) → decimal_in (suc f) n ≡ told.decimal n
    by (yes s) e = few (suc f) n s ∙ sym (one_digit n s)
    by (no s) e = more f n (omega arith) ∙ ap (λ t. t ++ (digit n ∷ [])) e ∙ sym (decimal_step n (omega arith) l)

pub decimal-told : (n : ℕ) → n < 2 ^ 64 → told.decimal n ≡ decimal n
decimal-told n l = sym (as-told 19 n (lt_of_lt_of_le l (lit≤ tt)) l)

same_sign : (z : ℤ) → SFits w64 z → told.signed_decimal z ≡ signed z
same_sign (pos n) f = decimal-told n (omega (arith, f))
same_sign (negsuc n) f = ap (λ t. 45 ∷ t) (decimal-told (suc n) (omega (arith, f)))

pub signed-told : {z : ℤ} → SFits w64 z → told.signed_decimal (wrap z) ≡ signed z
signed-told {z} f = ap told.signed_decimal (to_z-of_z f) ∙ same_sign z f

pub signed-kept : {z : ℤ} → SFits w64 z → signed (wrap z) ≡ signed z
signed-kept f = ap signed (to_z-of_z f)

-- ---- how long they are

decimal-in : (f n : ℕ) → length (decimal_in f n) ≤ suc f
unfolding decimal_in
decimal-in zero n = omega arith
decimal-in (suc f) n = by (dec_lt n 10) (decimal-in f (n / 10))
  where
    by : Dec (n < 10) → length (decimal_in f (n / 10)) ≤ suc f → length (decimal_in (suc f) n) ≤ suc (suc f)
    by (yes l) e = rw (few (suc f) n l) (omega arith)
    by (no l) e = rw (more f n (omega arith), length-append (decimal_in f (n / 10)) (digit n ∷ [])) (omega (arith, e))

pub decimal-long : (n : ℕ) → length (decimal n) ≤ 20
decimal-long n = decimal-in 19 n

pub signed-long : (z : ℤ) → length (signed z) ≤ 21
signed-long (pos n) = omega (arith, decimal-long n)
signed-long (negsuc n) = omega (arith, decimal-long (suc n))
