-- Numbers of eight bytes.
--
--   number_of_bytes bytes   the number that the last eight bytes write, the highest first, in two's complement
use Rattle.std.specs.Prelude.{List, ℕ, ◌+◌, ◌*◌, ◌%◌, ◌^◌, ℤ}
use Rattle.std.specs.List.{fold}
use Rattle.std.specs.Int.{cast_signed, w64}

unfoldable pub number_of_bytes : List ℕ → ℤ
number_of_bytes bytes = cast_signed w64 (fold (λ n byte. (n * 256 % 2 ^ 64 + byte) % 2 ^ 64) 0 bytes)
