-- That the code's signed values are the numbers.
--
--   back                                   an i64 as code holds it, as bits and read again, is the number
--   kept, held-half                        so of one that is read from a slice, and of an i32
--   square-fits, square-held, square-is    the square of an i64, as code forms it: it fits, it is not negative, it is the square of the size
--   widened, widened-fits                  an i32 that is read from a slice, as an i64
use Rattle.std.specs.Prelude.{◌≡◌, refl, ◌*◌, ◌^◌, ◌<◌, T, ℤ, pos, ◌*ℤ◌, nat_abs}
use Rattle.std.proofs.Common.{◌∙◌, arith, to_z-of_z, Fits, SFits, to_z, of_z}
use Rattle.std.specs.Int.Signed.{mag, non_neg}
use Rattle.std.specs.Int.{w32, w64}
use Rattle.algebra.specs.Laws.Size.{square, size_below}
use Rattle.algebra.specs.Laws.Machine.{fits, wrap}

pub back : (z : ℤ) → nat_abs z < 2 ^ 63 → wrap z ≡ z
back z h = to_z-of_z (fits z h)

pub kept : (z : ℤ) → mag z < 2 ^ 63 → wrap z ≡ z
kept z h = to_z-of_z {w = w64} {z = z} (record { sfits = h })

pub held-half : (z : ℤ) → mag z < 2 ^ 31 → to_z w32 (of_z w32 z) ≡ z
held-half z h = to_z-of_z {w = w32} {z = z} (record { sfits = h })

pub widened-fits : (z : ℤ) → mag z < 2 ^ 31 → SFits w64 (to_z w32 (of_z w32 z))
widened-fits z h = rw (held-half z h) (record { sfits = omega (arith, h) })

pub widened : (z : ℤ) → mag z < 2 ^ 31 → wrap (to_z w32 (of_z w32 z)) ≡ z
widened z h = to_z-of_z (widened-fits z h) ∙ held-half z h

module _ (x : ℤ) (h : nat_abs x * nat_abs x < 2 ^ 63) where
  squared : wrap x *ℤ wrap x ≡ pos (nat_abs x * nat_abs x)
  squared = rw (back x (omega (arith, h, size_below (nat_abs x)))) (square x)

  pub square-fits : SFits w64 (wrap x *ℤ wrap x)
  square-fits = rw squared (fits (pos (nat_abs x * nat_abs x)) h)

  all-squared : wrap (wrap x *ℤ wrap x) ≡ pos (nat_abs x * nat_abs x)
  all-squared = rw squared (back (pos (nat_abs x * nat_abs x)) h)

  pub square-held : T (non_neg (wrap (wrap x *ℤ wrap x))) × Fits w64 (nat_abs (wrap (wrap x *ℤ wrap x)))
  square-held = rw all-squared (tt, record { fits = omega (arith, h) })

  pub square-is : nat_abs (wrap (wrap x *ℤ wrap x)) ≡ nat_abs x * nat_abs x
  square-is = rw all-squared refl
