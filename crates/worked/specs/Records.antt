-- Records.
--
--   ComesFirst old new body   the input began with the length of the record, two bytes, the highest first, and its body, and these
--                               are gone
use Rattle.std.specs.Prelude.{◌≡◌, List, ◌∷◌, ℕ, ◌+◌, ◌*◌, Option, length}
use Rattle.std.specs.Io.KnownBytes.{Consumes}

abbrev pub ComesFirst : Option (List ℕ) → Option (List ℕ) → List ℕ → Type 0
ComesFirst old new body = (high : ℕ) × (low : ℕ) × (length body ≡ high * 256 + low) × Consumes old new (high ∷ low ∷ body)
