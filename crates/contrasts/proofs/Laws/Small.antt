-- Values that a pass or a step admits fit an i64, and so do those that passes make of them.
--
--   Small z       a value that a pass or a step admits
--   mild_limit    a size that leaves room for one more pass
--   Mild z        a value of up to that size: what one pass makes of small ones, or the sums back from totals
--   small-limit   four times the size that a pass or a step admits is within it
--   mild-small    a small value is mild
--   value-mild    so are all values of a list that a pass or a step admits
--   sum-mild, less-mild, all-mild, third-mild
--                 what one pass makes: at two levels the sum, and first minus second; at three levels the sum, and first minus twice middle
--                 plus third
--   room          six mild values fit
--   held          and such a value is what the code holds
--   mild-held, reading-mild
--                 a mild value, and a reading that is small, as code holds them, are mild
use Rattle.std.specs.Prelude.{◌≡◌, List, ℕ, ◌*◌, ◌^◌, ◌<◌, ◌≤◌, ℤ, pos, ◌+ℤ◌, ◌-ℤ◌, ◌*ℤ◌, nat_abs}
use Rattle.std.proofs.Common.{arith, lit<, lit≤, to_z, of_z}
use Rattle.std.specs.Int.Signed.{mag}
use Rattle.std.specs.Int.{w32}
use Rattle.algebra.specs.Laws.Size.{nat_abs-+ℤ, nat_abs-sub, nat_abs-*ℤ}
use Rattle.algebra.specs.Laws.Machine.{wrap}
use Rattle.algebra.proofs.Laws.Machine.{back, widened}
use Rattle.contrasts.specs.Columns.{AllWithin}
use Rattle.contrasts.specs.Limits.{value_limit}

pub record Small (z : ℤ) : Type 0 where
  pub small : nat_abs z ≤ value_limit

unfoldable pub mild_limit : ℕ
mild_limit = 1_000_000_000_000_000_000

pub record Mild (z : ℤ) : Type 0 where
  pub mild : nat_abs z ≤ mild_limit

pub small-limit : 4 * value_limit ≤ mild_limit
unfolding value_limit mild_limit
small-limit = lit≤ tt

pub value-mild : (xs : List ℤ) → AllWithin value_limit xs → AllWithin mild_limit xs
value-mild xs h i = omega (arith, small-limit, h i)

pub mild-small : {z : ℤ} → Small z → Mild z
mild-small s = record { mild = omega (arith, small-limit, s.small) }

module _ {a b : ℤ} (sa : Small a) (sb : Small b) where
  pub sum-mild : Mild (a +ℤ b)
  sum-mild = record { mild = omega (arith, small-limit, sa.small, sb.small, nat_abs-+ℤ a b) }

  pub less-mild : Mild (a -ℤ b)
  less-mild = record { mild = omega (arith, small-limit, sa.small, sb.small, nat_abs-sub a b) }

module _ {a b c : ℤ} (sa : Small a) (sb : Small b) (sc : Small c) where
  pub all-mild : Mild (a +ℤ b +ℤ c)
  all-mild = record { mild = omega (arith, small-limit, sa.small, sb.small, sc.small, nat_abs-+ℤ a b, nat_abs-+ℤ (a +ℤ b) c) }

  pub third-mild : Mild (a -ℤ pos 2 *ℤ b +ℤ c)
  third-mild =
      record {
        mild =
            omega
            (arith, small-limit, sa.small, sb.small, sc.small, nat_abs-*ℤ (pos 2) b, nat_abs-sub a (pos 2 *ℤ b), nat_abs-+ℤ (a -ℤ pos 2 *ℤ b) c);
      }

-- the one fact on the limit: a pass adds up to four mild values, and the sums back six
pub room : mild_limit * 6 < 2 ^ 63
unfolding mild_limit
room = lit< tt

pub held : {z : ℤ} → Mild z → wrap z ≡ z
held {z} s = back z (omega (arith, room, s.mild))

pub mild-held : {z : ℤ} → Mild z → Mild (wrap z)
mild-held s = rw (held s) s

pub reading-mild : (z : ℤ) → mag z < 2 ^ 31 → nat_abs z ≤ value_limit → Mild (wrap (to_z w32 (of_z w32 z)))
reading-mild z fits h = rw (widened z fits) (mild-small (record { small = h }))
