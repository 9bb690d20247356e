-- Division of an integer by a natural number n, which cuts off.
--
--   nat_abs-quot   the size of a quotient is the quotient of the size
--   quot-within    it is at most M where the number's is at most n times M
--   quot-back      n times the quotient is no larger than the number
--   quot-times     where n is not 0, n times an integer over n is that integer
--   cancel         so a common factor may be left out
use Rattle.std.specs.Prelude.{◌≡◌, refl, ℕ, zero, suc, ◌*◌, ◌/◌, ◌<◌, ◌≤◌, ℤ, pos, negsuc, neg_ℤ, ◌*ℤ◌, nat_abs}
use Rattle.std.proofs.Common.{sym, ◌∙◌, ap}
use Rattle.std.proofs.Math.Nat.{zero-div, mul-div_right, div-le_of_le-mul, mul-div-le}
use Rattle.std.specs.Int.Signed.{quot_z}
use Rattle.algebra.specs.Laws.Size.{nat_abs-neg, nat_abs-*ℤ}

pub nat_abs-quot : (n : ℕ) (z : ℤ) → nat_abs (quot_z z (pos n)) ≡ nat_abs z / n
nat_abs-quot n (pos m) = refl
nat_abs-quot n (negsuc m) = nat_abs-neg (pos (suc m / n))

pub quot-within : (n M : ℕ) (z : ℤ) → nat_abs z ≤ n * M → nat_abs (quot_z z (pos n)) ≤ M
quot-within n M z h = rw (nat_abs-quot n z) (div-le_of_le-mul n h)

pub quot-back : (n : ℕ) (z : ℤ) → nat_abs (pos n *ℤ quot_z z (pos n)) ≤ nat_abs z
quot-back n z = rw (nat_abs-*ℤ (pos n) (quot_z z (pos n)), nat_abs-quot n z) (mul-div-le (nat_abs z) n)

quot-neg : (n m : ℕ) → quot_z (neg_ℤ (pos m)) (pos n) ≡ neg_ℤ (pos (m / n))
quot-neg n zero = rw (zero-div n) refl
quot-neg n (suc m) = refl

module _ (n : ℕ) (some : 0 < n) where
  pub quot-times : (z : ℤ) → quot_z (pos n *ℤ z) (pos n) ≡ z
  quot-times (pos m) = ap pos (mul-div_right m some)
  quot-times (negsuc m) = quot-neg n (n * suc m) ∙ rw (mul-div_right (suc m) some) refl

  pub cancel : (a b : ℤ) → pos n *ℤ a ≡ pos n *ℤ b → a ≡ b
  cancel a b e = sym (quot-times a) ∙ ap (λ z. quot_z z (pos n)) e ∙ quot-times b
