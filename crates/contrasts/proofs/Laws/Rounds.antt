-- A turn of the loop that makes a round of the check: its sums fit an i64, and what they are.
--
--   triple-fits, drop-fits, round-fits, round_is
--                               a round of the check: three times first, minus middle, plus third; and what that is
use Rattle.std.specs.Prelude.{◌≡◌, ◌*◌, ◌^◌, ◌<◌, ◌≤◌, ℤ, pos, ◌+ℤ◌, ◌-ℤ◌, ◌*ℤ◌, nat_abs}
use Rattle.std.proofs.Common.{mul-le-mul, arith, lit≤, SFits}
use Rattle.std.specs.Int.{w64}
use Rattle.algebra.specs.Laws.Size.{nat_abs-+ℤ, nat_abs-sub, nat_abs-*ℤ}
use Rattle.algebra.specs.Laws.Machine.{fits, wrap}
use Rattle.algebra.proofs.Laws.Machine.{back}
use Rattle.contrasts.specs.Limits.{value_limit}
use Rattle.contrasts.proofs.Laws.Small.{Small, small-limit, mild-small, room, held}

triple-size : {a : ℤ} → Small a → nat_abs (pos 3 *ℤ a) ≤ 3 * value_limit
triple-size {a} sa = rw (nat_abs-*ℤ (pos 3) a) (mul-le-mul (lit≤ tt) sa.small)

pub triple-fits : {a : ℤ} → Small a → SFits w64 (pos 3 *ℤ wrap a)
triple-fits {a} sa = rw (held (mild-small sa)) (fits (pos 3 *ℤ a) (omega (arith, room, small-limit, triple-size sa)))

triple-is : {a : ℤ} → Small a → wrap (pos 3 *ℤ wrap a) ≡ pos 3 *ℤ a
triple-is {a} sa = rw (held (mild-small sa)) (back (pos 3 *ℤ a) (omega (arith, room, small-limit, triple-size sa)))

module _ {a b : ℤ} (sa : Small a) (sb : Small b) where
  drop-size : nat_abs (pos 3 *ℤ a -ℤ b) < 2 ^ 63
  drop-size = omega (arith, room, small-limit, triple-size sa, sb.small, nat_abs-sub (pos 3 *ℤ a) b)

  pub drop-fits : SFits w64 (wrap (pos 3 *ℤ wrap a) -ℤ wrap b)
  drop-fits = rw (triple-is sa, held (mild-small sb)) (fits (pos 3 *ℤ a -ℤ b) drop-size)

  drop-is : wrap (wrap (pos 3 *ℤ wrap a) -ℤ wrap b) ≡ pos 3 *ℤ a -ℤ b
  drop-is = rw (triple-is sa, held (mild-small sb)) (back (pos 3 *ℤ a -ℤ b) drop-size)

module _ {a b c : ℤ} (sa : Small a) (sb : Small b) (sc : Small c) where
  round-size : nat_abs (pos 3 *ℤ a -ℤ b +ℤ c) < 2 ^ 63
  round-size =
      omega (arith, room, small-limit, triple-size sa, sb.small, sc.small, nat_abs-sub (pos 3 *ℤ a) b, nat_abs-+ℤ (pos 3 *ℤ a -ℤ b) c)

  pub round-fits : SFits w64 (wrap (wrap (pos 3 *ℤ wrap a) -ℤ wrap b) +ℤ wrap c)
  round-fits = rw (drop-is sa sb, held (mild-small sc)) (fits (pos 3 *ℤ a -ℤ b +ℤ c) round-size)

  pub round_is : wrap (wrap (wrap (pos 3 *ℤ wrap a) -ℤ wrap b) +ℤ wrap c) ≡ pos 3 *ℤ a -ℤ b +ℤ c
  round_is = rw (drop-is sa sb, held (mild-small sc)) (back (pos 3 *ℤ a -ℤ b +ℤ c) round-size)
