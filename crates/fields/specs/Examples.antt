-- Small sheets, computed over the definitions.
--
--   one, added, block, repeats, readings, marks
--                                   fields: levels 2 and k = 1; AB with sign 1; the block word A; r = 2; readings 3 and -5; marks 0 and 1
--   is_bad sheet                    refusal 1 applies to a sheet
--   good, all-good; bad, all-bad    sheets that refusal 1 lets pass; sheets that it refuses
--   in-order, not_there             the bodies of a tag; none, where there is no such field
use Rattle.std.specs.Prelude.{◌≡◌, refl, Bool, true, false, List, [], ◌∷◌, ◌++◌, map, ℕ}
use Rattle.numerals.specs.Numbers.{big}
use Rattle.fields.specs.Fields.{parse, fields_of, bodies, body_at}
use Rattle.fields.specs.Tags.{bad_from, bad_fields}

abbrev one : List ℕ
one = 1 ∷ 0 ∷ 2 ∷ 2 ∷ 1 ∷ []

abbrev added : List ℕ
added = 2 ∷ 0 ∷ 3 ∷ 0 ∷ 3 ∷ 1 ∷ []

abbrev block : List ℕ
block = 3 ∷ 0 ∷ 2 ∷ 0 ∷ 1 ∷ []

abbrev repeats : List ℕ
repeats = 6 ∷ 0 ∷ 1 ∷ 2 ∷ []

abbrev readings : List ℕ
readings = 4 ∷ 0 ∷ 8 ∷ 0 ∷ 0 ∷ 0 ∷ 3 ∷ 255 ∷ 255 ∷ 255 ∷ 251 ∷ []

abbrev marks : List ℕ
marks = 5 ∷ 0 ∷ 2 ∷ 0 ∷ 1 ∷ []

abbrev is_bad : List ℕ → Bool
is_bad sheet = bad_fields (fields_of sheet)

-- S3, S14: without tag 6; with it after 3, and after 1
abbrev good : List (List ℕ)
good =
    (one ++ readings ++ marks)
    ∷ (one ++ added ++ added ++ block ++ readings ++ marks)
    ∷ (one ++ added ++ added ++ block ++ repeats ++ readings ++ marks)
    ∷ (one ++ repeats ++ readings ++ marks)
    ∷ []

all-good : map is_bad good ≡ map (λ s. false) good
unfolding bad_fields bad_from bodies fields_of parse big
all-good = refl

-- N1: the empty sheet; a tag without a length, and without a whole one; a body cut short, and one byte too many; an unknown tag, first and
-- last; a tag that falls; tag 1, 4 or 5 absent or repeated; fields 1, 2, 3 of wrong length; a field 4 of 7 bytes; tag 6 before 1, before 3,
-- after 4, after 5, twice, of no byte and of two
abbrev bad : List (List ℕ)
bad =
    []
    ∷ (one ++ readings ++ (5 ∷ []))
    ∷ (one ++ readings ++ (5 ∷ 0 ∷ []))
    ∷ (one ++ readings ++ (5 ∷ 0 ∷ 2 ∷ 0 ∷ []))
    ∷ (one ++ readings ++ marks ++ (0 ∷ []))
    ∷ ((0 ∷ 0 ∷ 0 ∷ []) ++ one ++ readings ++ marks)
    ∷ (one ++ readings ++ marks ++ (9 ∷ 0 ∷ 0 ∷ []))
    ∷ (one ++ block ++ added ++ readings ++ marks)
    ∷ (readings ++ marks)
    ∷ (one ++ marks)
    ∷ (one ++ readings)
    ∷ (one ++ one ++ readings ++ marks)
    ∷ (one ++ readings ++ readings ++ marks)
    ∷ (one ++ readings ++ marks ++ marks)
    ∷ ((1 ∷ 0 ∷ 3 ∷ 2 ∷ 1 ∷ 0 ∷ []) ++ readings ++ marks)
    ∷ (one ++ (2 ∷ 0 ∷ 2 ∷ 0 ∷ 3 ∷ []) ++ readings ++ marks)
    ∷ (one ++ (3 ∷ 0 ∷ 1 ∷ 1 ∷ []) ++ readings ++ marks)
    ∷ (one ++ (4 ∷ 0 ∷ 7 ∷ 0 ∷ 0 ∷ 0 ∷ 3 ∷ 0 ∷ 0 ∷ 0 ∷ []) ++ marks)
    ∷ (repeats ++ one ++ readings ++ marks)
    ∷ (one ++ repeats ++ block ++ readings ++ marks)
    ∷ (one ++ readings ++ repeats ++ marks)
    ∷ (one ++ readings ++ marks ++ repeats)
    ∷ (one ++ repeats ++ repeats ++ readings ++ marks)
    ∷ (one ++ (6 ∷ 0 ∷ 0 ∷ []) ++ readings ++ marks)
    ∷ (one ++ (6 ∷ 0 ∷ 2 ∷ 0 ∷ 2 ∷ []) ++ readings ++ marks)
    ∷ []

all-bad : map is_bad bad ≡ map (λ s. true) bad
unfolding bad_fields bad_from bodies fields_of parse big
all-bad = refl

-- the bodies of a tag, in order
in-order : bodies 3 (fields_of (one ++ block ++ (3 ∷ 0 ∷ 2 ∷ 2 ∷ 3 ∷ []) ++ readings ++ marks)) ≡ (0 ∷ 1 ∷ []) ∷ (2 ∷ 3 ∷ []) ∷ []
unfolding bodies fields_of parse big
in-order = refl

-- none, where there is no such field
not_there : body_at 2 0 (fields_of (one ++ readings ++ marks)) ≡ []
unfolding body_at bodies fields_of parse big
not_there = refl
