-- What came of the input.
--
--   FullOrEnded new r room   so many bytes as there is room for, or fewer of an input that has ended
--   CameFrom old new r all   of the bytes that the input had, where those are known, the buffer has the first, and those that were
--                            read are gone
use Rattle.std.specs.Prelude.{ℕ, ◌<◌, ◌≤◌, Option, Result, Ok, Err, List, take}
use Rattle.std.specs.Io.KnownBytes.{Consumes, IsAtEnd}

abbrev pub FullOrEnded : {E : Type 0} → Option (List ℕ) → Result ℕ E → ℕ → Type 0
FullOrEnded new (Ok n) room = (n ≤ room) × (n < room → IsAtEnd new)
FullOrEnded new (Err e) room = Unit

abbrev pub CameFrom : {E : Type 0} → Option (List ℕ) → Option (List ℕ) → Result ℕ E → List ℕ → Type 0
CameFrom old new (Ok n) all = Consumes old new (take n all)
CameFrom old new (Err e) all = (n : ℕ) × Consumes old new (take n all)
