-- What two block sums differ by.
--
--   small-held, differences-held                a block sum as code holds it, and what two such differ by
--   times-few                                   2 to the power k times three squares fits
--   difference-small, difference-fits           how large a difference is
--   difference-squarable, difference-squared    its square
use mathlib.Core.Path.{◌≡◌, refl}
use Prim.Native.Nat.{ℕ, ◌*◌, ◌^◌, ◌<◌, ◌≤◌}
use native.Mathlib.Nat.{mul-le-mul, pow-le-pow_right}
use native.Mathlib.Omega.{arith}
use lib.IntN.{ℤ, nat_abs, ◌-ℤ◌}
use mir.Syntax.{w64}
use mir.Val.{SFits}
use Rattle.algebra.specs.Laws.Machine.{fits, wrap}
use Rattle.algebra.proofs.Laws.Machine.{back}
use Rattle.algebra.specs.Laws.Size.{sq, nat_abs-sub}
use Rattle.walks.specs.Ready.{Squarable}
use Rattle.blocks.specs.Ready.{BlockSized}

pub small-held : {a : ℤ} → BlockSized a → BlockSized (wrap a)
small-held {a} s = rw (back a (omega (arith, s.small))) s

-- 2 to the power k times three squares
pub times-few : {k n : ℕ} → k ≤ 6 → n ≤ 125_829_120_000_000_000 → 2 ^ k * n < 2 ^ 64
times-few {k} {n} h l = omega (arith, mul-le-mul (pow-le-pow_right {n = 2} (omega arith) {i = k} {j = 6} h) l)

module _ {a b : ℤ} (one : BlockSized a) (other : BlockSized b) where
  difference-small : nat_abs (a -ℤ b) ≤ 204_800_000
  difference-small = omega (arith, nat_abs-sub a b, one.small, other.small)

  square-small : sq (a -ℤ b) ≤ 41_943_040_000_000_000
  square-small = mul-le-mul difference-small difference-small

  -- the two as code holds them
  held : wrap a -ℤ wrap b ≡ a -ℤ b
  held = rw (back a (omega (arith, one.small)), back b (omega (arith, other.small))) refl

  pub differences-held : {n : ℕ} → n ≡ sq (wrap a -ℤ wrap b) → n ≡ sq (a -ℤ b)
  differences-held e = rw held at e

  pub difference-fits : SFits w64 (wrap a -ℤ wrap b)
  difference-fits = rw held (fits (a -ℤ b) (omega (arith, difference-small)))

  difference-back : wrap (wrap a -ℤ wrap b) ≡ a -ℤ b
  difference-back = rw held (back (a -ℤ b) (omega (arith, difference-small)))

  pub difference-squarable : Squarable (wrap (wrap a -ℤ wrap b))
  difference-squarable = rw difference-back (record { square-fits = omega (arith, square-small) })

  pub difference-squared : {n : ℕ} → n ≡ sq (wrap (wrap a -ℤ wrap b)) → (n ≡ sq (a -ℤ b)) × (n ≤ 41_943_040_000_000_000)
  difference-squared {n} e =
      let is : n ≡ sq (a -ℤ b) = rw difference-back at e in
      (is, rw is square-small)
