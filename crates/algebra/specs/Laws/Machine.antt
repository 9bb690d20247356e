-- What fits a machine's integer.
--
--   fits, fits-half   a size below 2 ^ 63 fits an i64, and one below 2 ^ 31 an i32
--   wrap              an i64 as code holds it, as bits and read again
use Rattle.std.specs.Prelude.{◌^◌, ◌<◌, ◌≤◌, ℤ, pos, negsuc, nat_abs}
use Rattle.std.proofs.Common.{le_refl, arith, SFits, to_z, of_z}
use Rattle.std.specs.Int.Signed.{mag}
use Rattle.std.specs.Int.{w32, w64}

mag-le : (z : ℤ) → mag z ≤ nat_abs z
mag-le (pos n) = le_refl n
mag-le (negsuc n) = omega arith

pub fits : (z : ℤ) → nat_abs z < 2 ^ 63 → SFits w64 z
fits z h = record { sfits = omega (arith, mag-le z) }

pub fits-half : (z : ℤ) → nat_abs z < 2 ^ 31 → SFits w32 z
fits-half z h = record { sfits = omega (arith, mag-le z) }

abbrev pub wrap : ℤ → ℤ
wrap z = to_z w64 (of_z w64 z)
