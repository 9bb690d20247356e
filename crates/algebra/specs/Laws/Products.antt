-- Products of natural numbers.
--
--   mul-pow         the power of a product
--   factor-pos      a factor of a product that is not 0 is not 0
use Rattle.std.specs.Prelude.{◌≡◌, refl, ℕ, zero, suc, ◌*◌, ◌^◌, ◌<◌}
use Rattle.std.proofs.Common.{zero-mul, pow-suc, arith}
use Rattle.std.proofs.Math.Nat.{pow-zero, mul-mul-mul_comm}

pub mul-pow : (a b k : ℕ) → (a * b) ^ k ≡ a ^ k * b ^ k
mul-pow a b zero = rw (pow-zero (a * b), pow-zero a, pow-zero b) refl
mul-pow a b (suc k) = rw (pow-suc (a * b) k, mul-pow a b k, pow-suc a k, pow-suc b k) (mul-mul-mul_comm (a ^ k) (b ^ k) a b)

pub factor-pos : (a b c : ℕ) → a * b ≡ c → 0 < c → 0 < a
factor-pos zero b c e h = absurd (omega (arith, zero-mul b))
factor-pos (suc a) b c e h = omega arith
