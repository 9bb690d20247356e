-- What the fields of a sheet say: the plan, the readings and the marks.
--
--   byte_at i body            the byte of a body at a place
--   word_in body              the word of its first two bytes
--   repeats_in fs             how often each run is made
--   needless fs               refusal 16: tag 6 is there and holds 1
--   plan_in fs                the plan
--   reading_at, readings_of   the readings of the body of field 4
--   readings_in fs            those of the sheet
--   marks_in fs               the marks
use Rattle.std.specs.Prelude.{Bool, cond, not, ◌&&◌, List, [], ◌∷◌, ℕ, ◌+◌, ◌*◌, ◌/◌, eqb, ℤ, length, get_or}
use Rattle.algebra.specs.Tab.{tab}
use Rattle.contrasts.specs.Limits.{most_added, most_blocks}
use Rattle.plan.specs.declared.types.Plan.{Plan}
use Rattle.numerals.specs.Numbers.{big, twos}
use Rattle.fields.specs.Fields.{Fields, bodies, body_at}

-- the byte of a body at a place
abbrev pub byte_at : ℕ → List ℕ → ℕ
byte_at i body = get_or body i 0

-- S5, S6: "the word": the first two bytes of a body, for a set of letters (P6) as for the number of a three-level plan (P14)
abbrev pub word_in : List ℕ → ℕ
word_in body = big (byte_at 0 body ∷ byte_at 1 body ∷ [])

-- S14: "tag 6 holds r in one byte [..], and without it r is 1"
abbrev pub repeats_in : Fields → ℕ
repeats_in fs = cond (eqb (length (bodies 6 fs)) 0) 1 (byte_at 0 (body_at 6 0 fs))

-- N16: "a tag 6 holding 1 also gives 16"
unfoldable pub needless : Fields → Bool
needless fs = not (eqb (length (bodies 6 fs)) 0) && eqb (byte_at 0 (body_at 6 0 fs)) 1

-- S4 to S6: "Tag 1, once: levels and k, a byte each. Tag 2, per added factor: word, sign byte. Tag 3, per block word: the word."
-- P10, P11: "Places beyond a plan's counts are ignored; the reader sets them to 0."
unfoldable pub plan_in : Fields → Plan
plan_in fs = record {
  levels = byte_at 0 (body_at 1 0 fs);
  k = byte_at 1 (body_at 1 0 fs);
  added = length (bodies 2 fs);
  words = tab most_added (λ i. word_in (body_at 2 i fs));
  signs = tab most_added (λ i. byte_at 2 (body_at 2 i fs));
  blocks = length (bodies 3 fs);
  blockwords = tab most_blocks (λ i. word_in (body_at 3 i fs));
  repeats = repeats_in fs;
}

-- S7: "readings, 4 bytes each in two's complement"
unfoldable pub reading_at : List ℕ → ℕ → ℤ
reading_at body i = twos 32 (big (byte_at (4 * i) body ∷ byte_at (4 * i + 1) body ∷ byte_at (4 * i + 2) body ∷ byte_at (4 * i + 3) body ∷ []))

unfoldable pub readings_of : List ℕ → List ℤ
readings_of body = tab (length body / 4) (reading_at body)

-- S7
abbrev pub readings_in : Fields → List ℤ
readings_in fs = readings_of (body_at 4 0 fs)

-- S8: "Tag 5, once: R mark bytes."
abbrev pub marks_in : Fields → List ℕ
marks_in fs = body_at 5 0 fs
