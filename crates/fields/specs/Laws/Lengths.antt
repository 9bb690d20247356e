-- How many bytes fields take, and that refusal 1 lets pass no other.
--
--   span_of fs                         the bytes of fields, with their tags and lengths
--   Spanned, span-parse, span_none    of the fields that are read from some bytes
--   span-whole                        so of a sheet, where refusal 1 does not apply
--   spans, by_tags, span-by-tags      these bytes, tag by tag
--   span-of-sheet                     of a sheet: 5, 6 for each field 2, 5 for each field 3, 4 for field 6, and the two bodies with 3 each
--   four-whole                        field 4 is whole readings
use Rattle.std.specs.Prelude.{◌≡◌, refl, Bool, true, false, cond, List, [], ◌∷◌, ℕ, zero, suc, ◌+◌, ◌*◌, ◌%◌, ◌≤◌, leb, eqb, take, drop, get_or}
use Rattle.std.proofs.Common.{◌∙◌, true≢false, arith, leb-true, eqb-true, length-drop, length-take-le}
use Rattle.std.proofs.Math.ListN.{length}
use Rattle.numerals.specs.Numbers.{big}
use Rattle.fields.specs.Fields.{Fields, end, cut, field, first, parse, fields_of, bodies, body_at}
use Rattle.fields.specs.Tags.{tag_rules, admits, place_of, bad_from, bad_fields}
use Rattle.fields.specs.Laws.Passed.{Known, one, two, three, six, four, five, known, passes, all_pass, counted}

unfoldable pub span_of : Fields → ℕ
span_of end = 0
span_of cut = 0
span_of (field t body rest) = 3 + length body + span_of rest

-- ---- the bytes of a sheet are those of its fields

abbrev pub Spanned : (List ℕ → Fields) → List ℕ → ℕ → Type 0
Spanned rest s last = bad_from last (rest s) ≡ false → length s ≡ span_of (rest s)

first-span : (rest : List ℕ → Fields) → ((r : List ℕ) (last : ℕ) → Spanned rest r last) → (s : List ℕ) (last : ℕ) → Spanned (first rest) s last
unfolding bad_from span_of
first-span rest h [] last e = refl
first-span rest h (t ∷ []) last e = absurd (true≢false e)
first-span rest h (t ∷ a ∷ []) last e = absurd (true≢false e)
first-span rest h (t ∷ a ∷ b ∷ s) last e = by (leb n (length s)) refl e
  where
    n : ℕ
    n = big (a ∷ b ∷ [])

    whole : Fields
    whole = field t (take n s) (rest (drop n s))

    by : (w : Bool) → leb n (length s) ≡ w → bad_from last (cond w whole cut) ≡ false → suc (suc (suc (length s))) ≡ span_of (cond w whole cut)
    by false d f = absurd (true≢false f)
    by true d f =
        let l : n ≤ length s = leb-true n (length s) d in
        omega (arith, l, length-take-le n s l, length-drop n s, h (drop n s) (place_of tag_rules t) (passes last t (take n s) (rest (drop n s)) f).others)

-- no field is read where none may be left
pub span_none : (r : List ℕ) (last : ℕ) → Spanned (λ s. cut) r last
unfolding bad_from
span_none r last e = absurd (true≢false e)

pub span-parse : (f : ℕ) (s : List ℕ) (last : ℕ) → Spanned (parse f) s last
unfolding parse
span-parse zero s last e = first-span (λ r. cut) span_none s last e
span-parse (suc f) s last e = first-span (parse f) (span-parse f) s last e

pub span-whole : (s : List ℕ) → bad_fields (fields_of s) ≡ false → length s ≡ span_of (fields_of s)
unfolding fields_of
span-whole s e = span-parse (length s) s 0 (all_pass (fields_of s) e)

-- ---- tag by tag

-- the bytes of bodies, with their tags and lengths
unfoldable pub spans : List (List ℕ) → ℕ
spans [] = 0
spans (body ∷ rest) = 3 + length body + spans rest

abbrev pub by_tags : Fields → ℕ
by_tags fs =
    5 * length (bodies 1 fs) + 6 * length (bodies 2 fs) + 5 * length (bodies 3 fs) + 4 * length (bodies 6 fs) + spans (bodies 4 fs) + spans (bodies 5 fs)

pub span-by-tags : (fs : Fields) (last : ℕ) → bad_from last fs ≡ false → span_of fs ≡ by_tags fs
unfolding bad_from span_of bodies spans
span-by-tags end last e = refl
span-by-tags cut last e = absurd (true≢false e)
span-by-tags (field t body rest) last e =
    let p = passes last t body rest e in
    by (known t (length body) p.admitted) (span-by-tags rest (place_of tag_rules t) p.others)
  where
    by : Known t (length body) → span_of rest ≡ by_tags rest → 3 + length body + span_of rest ≡ by_tags (field t body rest)
    by (one p q) h = rw p (omega (arith, q, h))
    by (two p q) h = rw p (omega (arith, q, h))
    by (three p q) h = rw p (omega (arith, q, h))
    by (six p q) h = rw p (omega (arith, q, h))
    by (four p q) h = rw p (omega (arith, h))
    by (five p) h = rw p (omega (arith, h))

-- each of some bodies is of a length that the rules admit
abbrev Admitted : ℕ → List (List ℕ) → Type 0
Admitted t [] = Unit
Admitted t (body ∷ rest) = (admits tag_rules t (length body) ≡ true) × Admitted t rest

all-admitted : (t : ℕ) (fs : Fields) (last : ℕ) → bad_from last fs ≡ false → Admitted t (bodies t fs)
unfolding bad_from bodies
all-admitted t end last e = tt
all-admitted t cut last e = tt
all-admitted t (field u body rest) last e =
    let p = passes last u body rest e in
    by (eqb u t) refl p.admitted (all-admitted t rest (place_of tag_rules u) p.others)
  where
    by : (same : Bool) → eqb u t ≡ same → admits tag_rules u (length body) ≡ true → Admitted t (bodies t rest)
        → Admitted t (cond same (body ∷ bodies t rest) (bodies t rest))
    by true d a h = (rw (eqb-true u t d) at a, h)
    by false d a h = h

-- of one body
no-two : (n : ℕ) → suc (suc n) ≡ 1 → ⊥
no-two n e = omega arith

one_span : (bs : List (List ℕ)) → length bs ≡ 1 → spans bs ≡ 3 + length (get_or bs 0 [])
unfolding spans
one_span [] e = absurd (omega (arith, e))
one_span (b ∷ []) e = omega arith
one_span (b ∷ c ∷ bs) e = absurd (no-two (length bs) e)

one-admitted : (t : ℕ) (bs : List (List ℕ)) → length bs ≡ 1 → Admitted t bs → admits tag_rules t (length (get_or bs 0 [])) ≡ true
one-admitted t [] e w = absurd (omega (arith, e))
one-admitted t (b ∷ []) e w = w.0
one-admitted t (b ∷ c ∷ bs) e w = absurd (no-two (length bs) e)

module _ (s : List ℕ) (e : bad_fields (fields_of s) ≡ false) where
  pub span-of-sheet : length s
      ≡ 5
      + 6 * length (bodies 2 (fields_of s))
      + 5 * length (bodies 3 (fields_of s))
      + 4 * length (bodies 6 (fields_of s))
      + (3 + length (body_at 4 0 (fields_of s)))
      + (3 + length (body_at 5 0 (fields_of s)))
  unfolding body_at
  span-of-sheet =
      let fs = fields_of s in
      let c = counted fs e in
      let b : length s ≡ by_tags fs = span-whole s e ∙ span-by-tags fs 0 (all_pass fs e) in
      omega (arith, b, c.ones, one_span (bodies 4 fs) c.fours, one_span (bodies 5 fs) c.fives)

  -- of a tag that has one field, its length is one that the rules admit
  body-admitted : (t : ℕ) → length (bodies t (fields_of s)) ≡ 1 → admits tag_rules t (length (body_at t 0 (fields_of s))) ≡ true
  unfolding body_at
  body-admitted t c = one-admitted t (bodies t (fields_of s)) c (all-admitted t (fields_of s) 0 (all_pass (fields_of s) e))

  pub four-whole : length (body_at 4 0 (fields_of s)) % 4 ≡ 0
  four-whole = eqb-true (length (body_at 4 0 (fields_of s)) % 4) 0 (body-admitted 4 (counted (fields_of s) e).fours)
