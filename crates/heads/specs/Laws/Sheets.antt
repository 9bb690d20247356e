-- The first bytes of a sheet are a head, which holds its plan.
--
--   plan_fields fs             the fields before the readings: those up to the first whose tag is not one of a plan
--   head-passes                where no field is bad, none of these is
--   none-late, head-same       they have the same bodies of tags 1, 2, 3 and 6, which never come later
--   head-none                  and none of tags 4 and 5
--   field_of                   the fields of a field's bytes and those after it
--   Headed, head-parse         of bytes that are read: as many as these fields take are these fields
--   head-span                  of a sheet to which refusal 1 does not apply they are its first `head_length` bytes
--   head-fields                so the fields of those bytes are these
--   head-fine                  they are a head,
--   head-plan, head-needless   with the plan of the sheet, and a field 6 that is needless where that of the sheet is
use Rattle.std.specs.Prelude.{◌≡◌, Bool, ℕ, zero, suc, ◌+◌, ◌≤◌, ◌<◌, ltb, length, take, drop}
use Rattle.std.proofs.Math.Path.{refl, sym, ap}
use Rattle.std.proofs.Common.{◌∙◌, true≢false, arith, length-append, length-take-le, take-add, take_at, drop_at}
use Rattle.std.proofs.Math.Bool.{true, false, cond}
use mathlib.Core.List.{List, [], ◌∷◌, ◌++◌}
use Rattle.std.proofs.Math.Nat.{le_trans}
use borrow.Author.Tests.{leb-true, leb-false, le-leb, le-ltb, eqb-true, eq-eqb}
use Rattle.std.proofs.Math.Dec.{eqb, leb}
use Rattle.numerals.specs.Numbers.{big}
use Rattle.fields.specs.Fields.{Fields, end, cut, field, first, parse, fields_of, bodies, body_at}
use Rattle.fields.specs.Tags.{tag_rules, admits, place_of, bad_from, bad_fields}
use Rattle.fields.specs.Laws.Enough.{field-first}
use Rattle.fields.specs.Laws.Passed.{passes, all_pass, counted}
use Rattle.fields.specs.Laws.Lengths.{span_of, spans, span-by-tags, span-of-sheet}
use Rattle.contents.specs.Contents.{needless, plan_in}
use Rattle.heads.specs.Heads.{bad_head, head_length}

-- 5 is the place of tag 4: the tags of a plan stand before it
unfoldable plan_fields : Fields → Fields
plan_fields end = end
plan_fields cut = cut
plan_fields (field t body rest) = cond (leb 5 (place_of tag_rules t)) end (field t body (plan_fields rest))

-- ---- what these fields are

head-passes : (fs : Fields) (last : ℕ) → bad_from last fs ≡ false → bad_from last (plan_fields fs) ≡ false
unfolding plan_fields bad_from
head-passes end last e = e
head-passes cut last e = e
head-passes (field t body rest) last e =
    let p = passes last t body rest e in
    by (leb 5 (place_of tag_rules t)) (le-ltb (place_of tag_rules t) last p.risen) p.admitted (head-passes rest (place_of tag_rules t) p.others)
  where
    by : (late : Bool) → ltb (place_of tag_rules t) last ≡ false → admits tag_rules t (length body) ≡ true
        → bad_from (place_of tag_rules t) (plan_fields rest) ≡ false → bad_from last (cond late end (field t body (plan_fields rest))) ≡ false
    by true r a o = refl
    by false r a o = rw (r, a, o) refl

module _ (u : ℕ) where
  -- a tag of a plan
  module _ (own : place_of tag_rules u < 5) where
    not_late : {A : Type 0} (t : ℕ) → t ≡ u → 5 ≤ place_of tag_rules t → A
    not_late t d l = absurd (omega (arith, own, rw d at l))

    none_here : (t : ℕ) (body : List ℕ) (rest : Fields) → 5 ≤ place_of tag_rules t → bodies u rest ≡ [] → bodies u (field t body rest) ≡ []
    unfolding bodies
    none_here t body rest l h = by (eqb t u) refl
      where
        by : (same : Bool) → eqb t u ≡ same → cond same (body ∷ bodies u rest) (bodies u rest) ≡ []
        by true d = not_late t (eqb-true t u d) l
        by false d = h

    none-late : (fs : Fields) (last : ℕ) → 5 ≤ last → bad_from last fs ≡ false → bodies u fs ≡ []
    unfolding bodies
    none-late end last l e = refl
    none-late cut last l e = refl
    none-late (field t body rest) last l e =
        let p = passes last t body rest e in
        let m : 5 ≤ place_of tag_rules t = le_trans l p.risen in
        none_here t body rest m (none-late rest (place_of tag_rules t) m p.others)

    head-same : (fs : Fields) (last : ℕ) → bad_from last fs ≡ false → bodies u (plan_fields fs) ≡ bodies u fs
    unfolding plan_fields bodies
    head-same end last e = refl
    head-same cut last e = refl
    head-same (field t body rest) last e =
        let o = (passes last t body rest e).others in
        by (leb 5 (place_of tag_rules t)) refl o (head-same rest (place_of tag_rules t) o)
      where
        by : (late : Bool) → leb 5 (place_of tag_rules t) ≡ late → bad_from (place_of tag_rules t) rest ≡ false → bodies u (plan_fields rest) ≡ bodies u rest
            → bodies u (cond late end (field t body (plan_fields rest))) ≡ bodies u (field t body rest)
        by true d o h =
            let m : 5 ≤ place_of tag_rules t = leb-true 5 (place_of tag_rules t) d in
            sym (none_here t body rest m (none-late rest (place_of tag_rules t) m o))
        by false d o h = ap (λ bs. cond (eqb t u) (body ∷ bs) bs) h

  -- the tag of the readings, or that of the marks
  head-none : 5 ≤ place_of tag_rules u → (fs : Fields) → bodies u (plan_fields fs) ≡ []
  unfolding plan_fields bodies
  head-none l end = refl
  head-none l cut = refl
  head-none l (field t body rest) = by (leb 5 (place_of tag_rules t)) refl (eqb t u) refl (head-none l rest)
    where
      by : (late : Bool) → leb 5 (place_of tag_rules t) ≡ late → (same : Bool) → eqb t u ≡ same → bodies u (plan_fields rest) ≡ []
          → bodies u (cond late end (field t body (plan_fields rest))) ≡ []
      by true d same c h = refl
      by false d true c h = absurd (omega (arith, l, rw (eqb-true t u c) at (leb-false 5 (place_of tag_rules t) d)))
      by false d false c h = rw c h

-- ---- the bytes that they take

field_of : (t a b : ℕ) (body more : List ℕ) → length body ≡ big (a ∷ b ∷ []) → fields_of (t ∷ a ∷ b ∷ body ++ more) ≡ field t body (fields_of more)
field_of t a b body more e =
    let n = big (a ∷ b ∷ []) in
    let l : n ≤ length (body ++ more) = rw length-append (omega (arith, e)) in
    field-first (t ∷ a ∷ b ∷ body ++ more) ∙ rw (le-leb n (length (body ++ more)) l, take_at body more n e, drop_at body more n e) refl

abbrev Headed : (List ℕ → Fields) → List ℕ → ℕ → Type 0
Headed rest s last = bad_from last (rest s) ≡ false → fields_of (take (span_of (plan_fields (rest s))) s) ≡ plan_fields (rest s)

no_fields : fields_of [] ≡ end
no_fields = field-first []

first_head : (rest : List ℕ → Fields) → ((r : List ℕ) (last : ℕ) → Headed rest r last) → (s : List ℕ) (last : ℕ) → Headed (first rest) s last
unfolding bad_from plan_fields span_of
first_head rest h [] last e = no_fields
first_head rest h (t ∷ []) last e = absurd (true≢false e)
first_head rest h (t ∷ a ∷ []) last e = absurd (true≢false e)
first_head rest h (t ∷ a ∷ b ∷ s) last e = by (leb n (length s)) refl e
  where
    n : ℕ
    n = big (a ∷ b ∷ [])

    whole : Fields
    whole = field t (take n s) (rest (drop n s))

    before : Fields
    before = plan_fields (rest (drop n s))

    of-place : (late : Bool) → n ≤ length s → fields_of (take (span_of before) (drop n s)) ≡ before
        → fields_of (take (span_of (cond late end (field t (take n s) before))) (t ∷ a ∷ b ∷ s)) ≡ cond late end (field t (take n s) before)
    of-place true l g = no_fields
    of-place false l g =
        let k : 3 + length (take n s) + span_of before ≡ suc (suc (suc (n + span_of before))) = omega (arith, length-take-le n s l) in
        ap (λ i. fields_of (take i (t ∷ a ∷ b ∷ s))) k
        ∙ ap (λ bytes. fields_of (t ∷ a ∷ b ∷ bytes)) (take-add n (span_of before) s)
        ∙ field_of t a b (take n s) (take (span_of before) (drop n s)) (length-take-le n s l)
        ∙ ap (field t (take n s)) g

    by : (w : Bool) → leb n (length s) ≡ w → bad_from last (cond w whole cut) ≡ false
        → fields_of (take (span_of (plan_fields (cond w whole cut))) (t ∷ a ∷ b ∷ s)) ≡ plan_fields (cond w whole cut)
    by false d f = absurd (true≢false f)
    by true d f =
        of-place (leb 5 (place_of tag_rules t)) (leb-true n (length s) d)
        (h (drop n s) (place_of tag_rules t) (passes last t (take n s) (rest (drop n s)) f).others)

head-cut : (r : List ℕ) (last : ℕ) → Headed (λ s. cut) r last
unfolding bad_from
head-cut r last e = absurd (true≢false e)

head-parse : (f : ℕ) (s : List ℕ) (last : ℕ) → Headed (parse f) s last
unfolding parse
head-parse zero s last e = first_head (λ r. cut) head-cut s last e
head-parse (suc f) s last e = first_head (parse f) (head-parse f) s last e

-- ---- of a sheet

module _ (s : List ℕ) (e : bad_fields (fields_of s) ≡ false) where
  abbrev of-sheet : Fields
  of-sheet = fields_of s

  abbrev of-head : Fields
  of-head = plan_fields (fields_of s)

  same : (u : ℕ) → place_of tag_rules u < 5 → bodies u of-head ≡ bodies u of-sheet
  same u own = head-same u own of-sheet 0 (all_pass of-sheet e)

  ones : bodies 1 of-head ≡ bodies 1 of-sheet
  ones = same 1 (omega arith)

  twos : bodies 2 of-head ≡ bodies 2 of-sheet
  twos = same 2 (omega arith)

  threes : bodies 3 of-head ≡ bodies 3 of-sheet
  threes = same 3 (omega arith)

  sixes : bodies 6 of-head ≡ bodies 6 of-sheet
  sixes = same 6 (omega arith)

  fours : bodies 4 of-head ≡ []
  fours = head-none 4 (omega arith) of-sheet

  fives : bodies 5 of-head ≡ []
  fives = head-none 5 (omega arith) of-sheet

  head-span : head_length s ≡ span_of of-head
  unfolding head_length spans
  head-span =
      let c = counted of-sheet e in
      let b = span-by-tags of-head 0 (head-passes of-sheet 0 (all_pass of-sheet e)) in
      omega (arith, rw (ones, twos, threes, sixes, fours, fives) at b, c.ones, span-of-sheet s e)

  head-fields : fields_of (take (head_length s) s) ≡ of-head
  unfolding fields_of
  head-fields = ap (λ n. fields_of (take n s)) head-span ∙ head-parse (length s) s 0 (all_pass (fields_of s) e)

  pub head-fine : bad_head (fields_of (take (head_length s) s)) ≡ false
  unfolding bad_head
  head-fine =
      let c = counted of-sheet e in
      let p = head-passes of-sheet 0 (all_pass of-sheet e) in
      rw (head-fields, p, ones, sixes, fours, fives, eq-eqb (length (bodies 1 of-sheet)) 1 c.ones, le-leb (length (bodies 6 of-sheet)) 1 c.sixes) refl

  pub head-plan : plan_in (fields_of (take (head_length s) s)) ≡ plan_in (fields_of s)
  unfolding plan_in body_at
  head-plan = rw (head-fields, ones, twos, threes, sixes) refl

  pub head-needless : needless (fields_of (take (head_length s) s)) ≡ needless (fields_of s)
  unfolding needless body_at
  head-needless = rw (head-fields, sixes) refl
