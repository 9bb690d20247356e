-- The total as journals print it: high minus low.
--
--   printed-size       it has the size of the total
--   printed-held       so doubles hold it and 2 ^ (m - 1) where they hold the total and 2 ^ m
--   zero-difference    a total of 0 gives positive zero, of an effect with an odd number of letters too
--   negated-difference, same-difference
--                      of any other total the double is negated for an odd number of letters; for an even number it is as it was
use Rattle.std.specs.Prelude.{◌≡◌, refl, Bool, true, false, cond, ℕ, zero, suc, ◌-◌, ℤ, pos, negsuc, nat_abs, neg_ℤ}
use Rattle.std.proofs.Common.{arith}
use Rattle.std.specs.Float.Ieee.{neg as minus}
use Rattle.algebra.specs.Laws.Size.{nat_abs-neg}
use Rattle.words.specs.Words.{odd_word}
use Rattle.estimates.specs.Quotient.{double, quotient, positive_zero, InDouble}
use Rattle.estimates.specs.Estimate.{printed_total, difference_of}

pub printed-size : (e : ℕ) (t : ℤ) → nat_abs (printed_total e t) ≡ nat_abs t
unfolding printed_total
printed-size e t = by (odd_word e)
  where
    by : (b : Bool) → nat_abs (cond b (neg_ℤ t) t) ≡ nat_abs t
    by true = nat_abs-neg t
    by false = refl

pub printed-held : {t : ℤ} {m : ℕ} (e : ℕ) → InDouble t m → InDouble (printed_total e t) (m - 1)
printed-held {t} e h = record { number = rw (printed-size e t) h.number; power = omega (arith, h.power) }

pub zero-difference : (m e : ℕ) → difference_of m e (pos 0) ≡ positive_zero
unfolding difference_of printed_total quotient
zero-difference m e = by (odd_word e)
  where
    by : (b : Bool) → quotient (cond b (neg_ℤ (pos 0)) (pos 0)) (m - 1) ≡ positive_zero
    by true = refl
    by false = refl

-- ---- the double, negated

-- "The estimate's difference is now negated when the effect has an odd number of letters.": the double is the one of the total, with its sign
-- turned, but for a total of 0
pub negated-difference : (m e : ℕ) (t : ℤ) → odd_word e ≡ true → (t ≡ pos 0 → ⊥) → difference_of m e t ≡ minus (quotient t (m - 1))
unfolding difference_of printed_total quotient double minus
negated-difference m e (pos zero) o h = absurd (h refl)
negated-difference m e (pos (suc n)) o h = rw o refl
negated-difference m e (negsuc n) o h = rw o refl

pub same-difference : (m e : ℕ) (t : ℤ) → odd_word e ≡ false → difference_of m e t ≡ quotient t (m - 1)
unfolding difference_of printed_total
same-difference m e t o = rw o refl
