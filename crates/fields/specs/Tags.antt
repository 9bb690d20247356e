-- Refusal 1 of the table of refusals.
--
--   once, at_most_once, any_number   how many fields of a tag there may be
--   Rule, tag_rules                  what is asked of the fields of a tag, and the order of the tags
--   admits                           the rules have fields of such a tag and length
--   place_of                        the place of a tag in this order
--   bad_from last fs               a field is cut short or not admitted, or its tag comes before that of the field before it
--   any_wrong_count                there are too few fields of a tag, or too many
--   bad_fields                     refusal 1
--   bad_with n fs                  the same of fields of which n hold readings, and as many hold marks
--   tag_number                     the number of a tag by name
use Rattle.std.specs.Prelude.{Bool, true, false, not, cond, ◌||◌, List, [], ◌∷◌, ℕ, suc, ◌%◌, eqb, leb, ltb, length}
use Rattle.fields.specs.Fields.{Fields, end, cut, field, bodies}
use Rattle.fields.specs.declared.tags.Tag.{Tag}
use Rattle.fields.specs.declared.tags.Tag.TheVariants as tag

-- S4, S7, S8: "once"
abbrev pub once : ℕ → Bool
once n = eqb n 1

-- S14: "without it r is 1"
abbrev pub at_most_once : ℕ → Bool
at_most_once n = leb n 1

-- S5, S6: "per added factor", "per block word"; whether a plan holds as many is refusal 4
abbrev pub any_number : ℕ → Bool
any_number n = true

-- a tag, how many fields of it there may be, and the lengths of their bodies
pub data Rule : Type 0 where
  rule : ℕ → (ℕ → Bool) → (ℕ → Bool) → Rule

-- S4 to S8: "Tag 1, once: levels and k, a byte each. Tag 2, per added factor: word, sign byte. Tag 3, per block word: the word. Tag 4,
-- once: readings, 4 bytes each [..]. Tag 5, once: R mark bytes."; whether there are R is refusal 11
-- S14: "tag 6 holds r in one byte and stands between tags 3 and 4"
abbrev pub tag_rules : List Rule
tag_rules =
    rule 1 once (λ n. eqb n 2)
    ∷ rule 2 any_number (λ n. eqb n 3)
    ∷ rule 3 any_number (λ n. eqb n 2)
    ∷ rule 6 at_most_once (λ n. eqb n 1)
    ∷ rule 4 once (λ n. eqb (n % 4) 0)
    ∷ rule 5 once (λ n. true)
    ∷ []

-- N1: a tag without a rule is unknown
abbrev pub admits : List Rule → ℕ → ℕ → Bool
admits [] t n = false
admits (rule u counts lengths ∷ rs) t n = cond (eqb t u) (lengths n) (admits rs t n)

-- S3, S14: the place of a tag's rule, from 1; that of a tag without a rule is the one after the last
abbrev pub place_of : List Rule → ℕ → ℕ
place_of [] t = 1
place_of (rule u counts lengths ∷ rs) t = cond (eqb t u) 1 (suc (place_of rs t))

-- S3: "Tags never fall.": no tag comes before that of the field before it, whose place is `last`
-- N1: "field cut short, unknown or falling tag, [..] field 1, 2 or 3 of wrong length, field 4 not a multiple of 4 bytes"; a tag 6
-- "elsewhere or [..] of another length gives 1"
unfoldable pub bad_from : ℕ → Fields → Bool
bad_from last end = false
bad_from last cut = true
bad_from last (field t body rest) =
    ltb (place_of tag_rules t) last || (not (admits tag_rules t (length body)) || bad_from (place_of tag_rules t) rest)

-- N1: "tag 1, 4 or 5 absent or repeated"; "a second" tag 6
abbrev pub any_wrong_count : List Rule → Fields → Bool
any_wrong_count [] fs = false
any_wrong_count (rule t counts lengths ∷ rs) fs = not (counts (length (bodies t fs))) || any_wrong_count rs fs

-- N1
unfoldable pub bad_fields : Fields → Bool
bad_fields fs = bad_from 0 fs || any_wrong_count tag_rules fs

-- ---- for the code

-- refusal 1 of fields of which n hold readings, and as many hold marks: of a sheet one, of its head none
unfoldable pub bad_with : ℕ → Fields → Bool
bad_with n fs =
    bad_from 0 fs
    || (not (once (length (bodies 1 fs)))
    || (not (at_most_once (length (bodies 6 fs))) || (not (eqb (length (bodies 4 fs)) n) || not (eqb (length (bodies 5 fs)) n))))

abbrev pub tag_number : Tag → ℕ
tag_number tag.Factors = 1
tag_number tag.Added = 2
tag_number tag.Block = 3
tag_number tag.Readings = 4
tag_number tag.Marks = 5
tag_number tag.Repeats = 6
