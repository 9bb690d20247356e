-- Plans as the code holds them, and the repeats that fields say, computed over the definitions.
--
--   counts           six, seven and nine added factors, and four, five and nine block words
--   one, six         fields: levels 2 and k = 1; how often runs are made
--   sheets           these fields without a field 6, and where it holds 2, 3 and 1
--   repeats-said     how often runs are made by them
--   needless-said    only the last of them is needless
use Rattle.std.specs.Prelude.{◌≡◌, refl, true, false, List, [], ◌∷◌, map, ℕ, replicate}
use Rattle.plan.specs.Examples.{AB, plan}
use Rattle.fields.specs.Fields.{Fields, end, field, bodies, body_at}
use Rattle.contents.specs.Contents.{needless, plan_in}
use Rattle.contents.specs.Held.{held}

counts : map (λ n. (held (plan 2 4 (replicate n AB) (replicate n 0) [])).added) (6 ∷ 7 ∷ 9 ∷ [])
    ∷ map (λ n. (held (plan 2 4 [] [] (replicate n AB))).blocks) (4 ∷ 5 ∷ 9 ∷ [])
    ∷ []
    ≡ (6 ∷ 7 ∷ 7 ∷ []) ∷ (4 ∷ 5 ∷ 5 ∷ []) ∷ []
unfolding held
counts = refl

abbrev one : Fields → Fields
one rest = field 1 (2 ∷ 1 ∷ []) rest

abbrev six : ℕ → Fields
six r = field 6 (r ∷ []) end

abbrev sheets : List Fields
sheets = one end ∷ one (six 2) ∷ one (six 3) ∷ one (six 1) ∷ []

-- S14: "without it r is 1"
repeats-said : map (λ fs. (plan_in fs).repeats) sheets ≡ 1 ∷ 2 ∷ 3 ∷ 1 ∷ []
unfolding plan_in bodies body_at
repeats-said = refl

-- N16: "a tag 6 holding 1 also gives 16"
needless-said : map needless sheets ≡ false ∷ false ∷ false ∷ true ∷ []
unfolding needless bodies body_at
needless-said = refl
