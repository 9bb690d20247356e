-- A whole number over another, as a double, and over a power of two.
--
--   negative t          the whole number t is below zero
--   IsQuotient t d x    x is finite, has the sign of t, and times d it is t
--   Exactly t d x       besides, x is a double, and no other double is that quotient
--   double s m j        the double with the sign s that is m / 2 ^ j
--   quotient t j        the double that is t / 2 ^ j
--   positive_zero       zero with the sign of a positive number
--   InDouble t j        a double holds t and 2 ^ j, as whole numbers
use Rattle.std.specs.Prelude.{◌≡◌, Bool, true, false, ℕ, ◌*◌, ◌^◌, ◌<◌, ◌≤◌, T, ℤ, pos, negsuc, nat_abs, Float}
use Rattle.std.specs.Float.Ieee as ieee
use Rattle.std.specs.Float.{fin, binary64}
use Rattle.std.specs.Float.Ieee.{prec, up, down, fits}

abbrev pub negative : ℤ → Bool
negative (pos n) = false
negative (negsuc n) = true

-- ---- what the double is

-- E5: x is finite, has the sign of t, and times d it is t: in size x is digits * 2 ^ exponent, and 2 ^ e is the fraction up e / down e.
pub record IsQuotient (t : ℤ) (d : ℕ) (x : Float) : Type 0 where
  pub digits : ℕ
  pub exponent : ℤ
  pub finite : x ≡ fin (negative t) digits exponent
  pub times : digits * up exponent * d ≡ nat_abs t * down exponent

-- E5: "The double is exactly that quotient"
pub record Exactly (t : ℤ) (d : ℕ) (x : Float) : Type 0 where
  pub value : IsQuotient t d x
  pub double : T (fits binary64 x)
  pub only : (y : Float) → T (fits binary64 y) → IsQuotient t d y → y ≡ x

-- ---- the double

-- the kit's form of a double: m with its closing binary zeros divided out, an odd number, times the power of two that is left; or zero
unfoldable pub double : Bool → ℕ → ℕ → Float
unfolding ieee.odd
double s m j = ieee.odd (prec binary64) s m 0 j

-- E5, E6: "The double is exactly that quotient; a zero total gives positive zero.": `exact` and `positive-zero` in `Laws/Exact.antt`
unfoldable pub quotient : ℤ → ℕ → Float
unfolding double
quotient t j = double (negative t) (nat_abs t) j

-- E6: "positive zero"
abbrev pub positive_zero : Float
positive_zero = fin false 0 (pos 0)

-- ---- totals and powers that are held

pub record InDouble (t : ℤ) (j : ℕ) : Type 0 where
  pub number : nat_abs t < 2 ^ 53
  pub power : j ≤ 52
