-- Text as bytes, and what it is to have written some in a lent buffer.
--
--   ascii s                          the bytes of a text
--   Wrote before at t after next     t was written from the place `at` on
--   Writes old t new                 the call that made the text `old` the text `new` wrote t
use Rattle.std.specs.Prelude.{◌≡◌, List, [], ◌∷◌, ℕ, min, ◌+◌, ◌-◌, length}
use Prim.Native.Char.{code}
use Prim.Native.String as string
use Prim.Native.String.{String}
use Rattle.std.proofs.lemmas.List.Edits.{sets}
use Rattle.text.specs.declared.bytes.Text.{Text}

-- the code of each character
abbrev pub ascii : String → List ℕ
ascii string.[] = []
ascii (string.◌∷◌ c s) = code c ∷ ascii s

-- the bytes of t stand at the place `at` and those after it, as far as the buffer has places, and all other places are as they were; `next`
-- is the place after the last that was written
pub record Wrote (before : List ℕ) (at : ℕ) (t after : List ℕ) (next : ℕ) : Type 0 where
  pub holds : after ≡ sets before at t
  pub ends : next ≡ at + min (length t) (length before - at)

-- from its end on, in the buffer that it was lent
pub record Writes (old : Text) (t : List ℕ) (new : Text) : Type 0 where
  pub lent : new.buffer.ghost_name ≡ old.buffer.ghost_name
  pub wrote : Wrote old.buffer.now old.at t new.buffer.now new.at
