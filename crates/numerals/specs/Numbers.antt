-- Numbers in bytes.
--
--   big bytes      the number that bytes write, the highest first
--   twos bits x    the number that x stands for in two's complement of so many bits
use Rattle.std.specs.Prelude.{cond, List, [], ◌∷◌, ℕ, ◌+◌, ◌-◌, ◌*◌, ◌^◌, ltb, ℤ, pos, neg_ℤ, length}

-- S2: "All numbers are big-endian."
unfoldable pub big : List ℕ → ℕ
big [] = 0
big (b ∷ bytes) = b * 256 ^ length bytes + big bytes

-- S7: "in two's complement": x from the half of 2 ^ bits on stands for x - 2 ^ bits
unfoldable pub twos : ℕ → ℕ → ℤ
twos bits x = cond (ltb x (2 ^ (bits - 1))) (pos x) (neg_ℤ (pos (2 ^ bits - x)))
