-- Columns that a call is lent.
--
--   kept_from same before i xs           how many of the places from i on hold what they held before
--   checksum_of whole factor modulus xs  for each value in turn, `factor` times the number so far and the value, by the modulus
use Rattle.std.specs.Prelude.{Bool, List, [], ◌∷◌, ℕ, ◌+◌, ◌*◌, ◌%◌, ℤ, pos, unsigned_abs}
use Rattle.std.specs.List.{fold}
use Rattle.std.specs.Int.{from_bool, int_rem_euclid}

unfoldable pub kept_from : {T : Type 0} → (T → T → Bool) → (ℕ → T) → ℕ → List T → ℕ
kept_from same before i [] = 0
kept_from same before i (x ∷ xs) = from_bool (same x (before i)) + kept_from same before (i + 1) xs

unfoldable pub checksum_of : {T : Type 0} → (T → ℤ) → ℕ → ℕ → List T → ℕ
checksum_of whole factor modulus xs = fold (λ sum x. (sum * factor + unsigned_abs (int_rem_euclid (whole x) (pos modulus))) % modulus) 0 xs
