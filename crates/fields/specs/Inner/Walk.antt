-- The walk over a sheet, from field to field.
--
--   whole fs       the tags and bodies of the fields before the end, or before one that is cut short
--   Gives fs r gs  r is the first field of fs, and gs are those after it; or there is none, and gs are fs
use Rattle.std.specs.Prelude.{◌≡◌, List, [], ◌∷◌, ℕ, Option, None, Some}
use Rattle.fields.specs.Fields.{Fields, end, cut, field}
use Rattle.fields.specs.declared.walks.Field.{Field}

unfoldable pub whole : Fields → List (ℕ × List ℕ)
whole end = []
whole cut = []
whole (field t body rest) = (t, body) ∷ whole rest

abbrev pub Gives : Fields → Option Field → Fields → Type 0
Gives fs None gs = (whole fs ≡ []) × (gs ≡ fs)
Gives fs (Some f) gs = fs ≡ field f.tag f.body.now gs
