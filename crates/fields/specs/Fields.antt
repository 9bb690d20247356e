-- The fields of a sheet, from its bytes.
--
--   Fields            fields one after the other, up to the end of the sheet or to one that is cut short
--   first rest bytes  the first field of some bytes, and what `rest` makes of those after it
--   parse n bytes     the fields of at most n bytes
--   fields_of sheet    those of a sheet
--   bodies t fs       the bodies of the fields of tag t, in order
--   body_at t i fs     the body of field i of tag t, and no bytes where there is none
use Rattle.std.specs.Prelude.{cond, List, [], ◌∷◌, ℕ, zero, suc, eqb, leb, length, take, drop, get_or}
use Rattle.numerals.specs.Numbers.{big}

-- S1
pub data Fields : Type 0 where
  end : Fields
  cut : Fields
  field : ℕ → List ℕ → Fields → Fields

-- S1: "Each field is a one-byte tag, a two-byte length and its body.": the first of some bytes, and what `rest` makes of those after it
abbrev pub first : (List ℕ → Fields) → List ℕ → Fields
first rest [] = end
first rest (t ∷ []) = cut
first rest (t ∷ h ∷ []) = cut
first rest (t ∷ h ∷ l ∷ bytes) =
    cond
    (leb (big (h ∷ l ∷ [])) (length bytes))
    (field t (take (big (h ∷ l ∷ [])) bytes) (rest (drop (big (h ∷ l ∷ [])) bytes)))
    cut

-- the fields of at most n bytes; n bounds the steps, and any n from the number of bytes on gives the same (`Laws/Enough.antt` `enough`)
unfoldable pub parse : ℕ → List ℕ → Fields
parse zero bytes = first (λ rest. cut) bytes
parse (suc n) bytes = first (parse n) bytes

-- S1
unfoldable pub fields_of : List ℕ → Fields
fields_of sheet = parse (length sheet) sheet

unfoldable pub bodies : ℕ → Fields → List (List ℕ)
bodies t end = []
bodies t cut = []
bodies t (field u body rest) = cond (eqb u t) (body ∷ bodies t rest) (bodies t rest)

unfoldable pub body_at : ℕ → ℕ → Fields → List ℕ
body_at t i fs = get_or (bodies t fs) i []
