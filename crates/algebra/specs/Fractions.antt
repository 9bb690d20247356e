-- Fractions of natural numbers, divided and added without rounding.
--
--   Fraction, ◌over◌       a number over another
--   plus q r, sum_of n f    two fractions, and n of them, added up
--   Is q m                 a fraction is the whole number m
use Rattle.std.specs.Prelude.{◌≡◌, ℕ, zero, suc, ◌+◌, ◌*◌, ◌<◌}

pub record Fraction : Type 0 where
  pub top : ℕ
  pub bottom : ℕ

infixl 20 ◌over◌
abbrev pub ◌over◌ : ℕ → ℕ → Fraction
a over b = record { top = a; bottom = b }

-- a / b + c / d is (a d + c b) / (b d)
unfoldable pub plus : Fraction → Fraction → Fraction
plus q r = (q.top * r.bottom + r.top * q.bottom) over (q.bottom * r.bottom)

unfoldable pub sum_of : ℕ → (ℕ → Fraction) → Fraction
sum_of zero f = 0 over 1
sum_of (suc n) f = plus (sum_of n f) (f n)

-- its bottom is not 0, and nothing is left over
pub record Is (q : Fraction) (m : ℕ) : Type 0 where
  pub bottom : 0 < q.bottom
  pub top : q.top ≡ m * q.bottom
