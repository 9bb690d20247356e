-- Sums as code forms them, of mild values.
--
--   Held n z v                  v, as code holds it, is z, at most n mild values in size
--   one, plus, minus, times     a value; a sum, a difference and a multiple
--   plus-fits, minus-fits, times-fits    each fits an i64
use mathlib.Core.Path.{◌≡◌}
use Prim.Native.Nat.{ℕ, ◌+◌, ◌*◌, ◌^◌, ◌<◌, ◌≤◌}
use native.Mathlib.Nat.{mul-le-mul_right, mul-le-mul_left, mul_assoc, one-mul}
use native.Mathlib.Omega.{arith}
use lib.IntN.{ℤ, pos, nat_abs, ◌+ℤ◌, ◌-ℤ◌, ◌*ℤ◌}
use mir.Syntax.{w64}
use mir.Val.{SFits}
use Rattle.algebra.specs.Laws.Machine.{fits, wrap}
use Rattle.algebra.proofs.Laws.Machine.{back}
use Rattle.algebra.specs.Laws.Size.{nat_abs-+ℤ, nat_abs-sub, nat_abs-*ℤ}
use Rattle.contrasts.proofs.Laws.Small.{mild_limit, Mild, room}

pub record Held (n : ℕ) (z v : ℤ) : Type 0 where
  pub so : v ≡ z
  pub size : nat_abs z ≤ n * mild_limit

small_size : (n : ℕ) (z : ℤ) → n ≤ 6 → nat_abs z ≤ n * mild_limit → nat_abs z < 2 ^ 63
small_size n z le h = omega (arith, room, h, mul-le-mul_right mild_limit le)

pub one : {a : ℤ} → Mild a → Held 1 a (wrap a)
one {a} s = record { so = back a (small_size 1 a (omega arith) size); size = size }
  where
    size : nat_abs a ≤ 1 * mild_limit
    size = rw (one-mul mild_limit) s.mild

module _ {m n : ℕ} {a b u v : ℤ} (p : Held m a u) (q : Held n b v) (le : m + n ≤ 6) where
  plus-size : nat_abs (a +ℤ b) ≤ (m + n) * mild_limit
  plus-size = omega (arith, p.size, q.size, nat_abs-+ℤ a b)

  minus-size : nat_abs (a -ℤ b) ≤ (m + n) * mild_limit
  minus-size = omega (arith, p.size, q.size, nat_abs-sub a b)

  pub plus-fits : SFits w64 (u +ℤ v)
  plus-fits = rw (p.so, q.so) (fits (a +ℤ b) (small_size (m + n) (a +ℤ b) le plus-size))

  pub minus-fits : SFits w64 (u -ℤ v)
  minus-fits = rw (p.so, q.so) (fits (a -ℤ b) (small_size (m + n) (a -ℤ b) le minus-size))

  pub plus : Held (m + n) (a +ℤ b) (wrap (u +ℤ v))
  plus = record { so = rw (p.so, q.so) (back (a +ℤ b) (small_size (m + n) (a +ℤ b) le plus-size)); size = plus-size }

  pub minus : Held (m + n) (a -ℤ b) (wrap (u -ℤ v))
  minus = record { so = rw (p.so, q.so) (back (a -ℤ b) (small_size (m + n) (a -ℤ b) le minus-size)); size = minus-size }

module _ (k : ℕ) {n : ℕ} {a u : ℤ} (p : Held n a u) (le : k * n ≤ 6) where
  times-size : nat_abs (pos k *ℤ a) ≤ k * n * mild_limit
  times-size = rw (nat_abs-*ℤ (pos k) a, mul_assoc k n mild_limit) (mul-le-mul_left k p.size)

  pub times-fits : SFits w64 (pos k *ℤ u)
  times-fits = rw p.so (fits (pos k *ℤ a) (small_size (k * n) (pos k *ℤ a) le times-size))

  pub times : Held (k * n) (pos k *ℤ a) (wrap (pos k *ℤ u))
  times = record { so = rw p.so (back (pos k *ℤ a) (small_size (k * n) (pos k *ℤ a) le times-size)); size = times-size }
