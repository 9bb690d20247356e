-- The test of a reading against a limit, as code makes it.
--
--   turned-fits, either_way           both tests of the code on a reading at once
use mathlib.Core.Path.{◌≡◌, refl}
use mathlib.Core.Bool.{Bool, true, false, ◌||◌}
use Prim.Native.Nat.{ℕ, ◌^◌, ◌<◌}
use native.Mathlib.Omega.{arith}
use lib.IntN.{ℤ, pos, ◌-ℤ◌}
use lib.Signed.{lt_z}
use mir.Facts.{to_z-of_z}
use mir.Syntax.{w32}
use mir.Val.{SFits, to_z, of_z}
use mir.ValLaws.{to_z_pos}
use Rattle.algebra.specs.Laws.Size.{nat_abs-sub}
use Rattle.algebra.specs.Laws.Machine.{fits-half}
use Rattle.plan.specs.Limits.{is_beyond}
use Rattle.plan.proofs.Laws.Beyond.{over, under}

either : (m : ℕ) (x : ℤ) → (lt_z (pos m) x || lt_z x (pos 0 -ℤ pos m)) ≡ is_beyond m x
either m x = by (lt_z (pos m) x) refl
  where
    by : (b : Bool) → lt_z (pos m) x ≡ b → (lt_z (pos m) x || lt_z x (pos 0 -ℤ pos m)) ≡ is_beyond m x
    by true e = rw e (over m x e)
    by false e = rw e (under m x e)

pub turned-fits : (m : ℕ) → m < 2 ^ 31 → SFits w32 (pos 0 -ℤ to_z w32 m)
turned-fits m k = rw (to_z_pos w32 m k) (fits-half (pos 0 -ℤ pos m) (omega (arith, nat_abs-sub (pos 0) (pos m))))

pub either_way : {x : ℤ} (m : ℕ) → SFits w32 x → m < 2 ^ 31
    → (lt_z (to_z w32 m) (to_z w32 (of_z w32 x)) || lt_z (to_z w32 (of_z w32 x)) (to_z w32 (of_z w32 (pos 0 -ℤ to_z w32 m)))) ≡ is_beyond m x
either_way {x} m f k = rw (to_z-of_z (turned-fits m k), to_z_pos w32 m k, to_z-of_z f) (either m x)
