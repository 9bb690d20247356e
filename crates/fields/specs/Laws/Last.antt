-- The body of tag 5 is the last bytes of the sheet.
--
--   no_more        after it comes nothing
--   Ends body s    the bytes are the last of a list
--   five-last      so are those of tag 5, where refusal 1 does not apply
use Rattle.std.specs.Prelude.{◌≡◌, refl, Bool, true, false, cond, List, [], ◌∷◌, ℕ, zero, suc, ◌+◌, ◌-◌, ◌≤◌, leb, eqb, length, take, drop, get_or}
use Rattle.std.proofs.Common.{sym, ap, ◌∙◌, true≢false, arith, leb-true, eqb-true, length-drop, take_all, drop-drop}
use Rattle.numerals.specs.Numbers.{big}
use Rattle.fields.specs.Fields.{Fields, end, cut, field, first, parse, fields_of, bodies, body_at}
use Rattle.fields.specs.Tags.{tag_rules, place_of, bad_from, bad_fields}
use Rattle.fields.specs.Laws.Passed.{Known, one, two, three, six, four, five, known, passes, all_pass, counted}
use Rattle.fields.specs.Laws.Lengths.{span_of, Spanned, span_none, span-parse}

-- 6 is the place of tag 5, the last
no_more : (fs : Fields) → bad_from 6 fs ≡ false → length (bodies 5 fs) ≡ 0 → span_of fs ≡ 0
unfolding bad_from bodies span_of
no_more end e h = refl
no_more cut e h = refl
no_more (field t body rest) e h =
    let p = passes 6 t body rest e in
    by (known t (length body) p.admitted) p.risen h
  where
    by : Known t (length body) → 6 ≤ place_of tag_rules t → length (cond (eqb t 5) (body ∷ bodies 5 rest) (bodies 5 rest)) ≡ 0
        → 3 + length body + span_of rest ≡ 0
    by (one p q) l d = absurd (omega (arith, rw p at l))
    by (two p q) l d = absurd (omega (arith, rw p at l))
    by (three p q) l d = absurd (omega (arith, rw p at l))
    by (six p q) l d = absurd (omega (arith, rw p at l))
    by (four p q) l d = absurd (omega (arith, rw p at l))
    by (five p) l d = absurd (omega (arith, rw p at d))

-- ---- bytes that end a list

pub record Ends (body s : List ℕ) : Type 0 where
  pub short : length body ≤ length s
  pub so : body ≡ drop (length s - length body) s

ends-whole : (s : List ℕ) → Ends s s
ends-whole s =
    let z : length s - length s ≡ 0 = omega arith in
    record { short = omega arith; so = rw z refl }

ends-after : (x : ℕ) (body s : List ℕ) → Ends body s → Ends body (x ∷ s)
ends-after x body s e =
    let m : suc (length s) - length body ≡ suc (length s - length body) = omega (arith, e.short) in
    record { short = omega (arith, e.short); so = e.so ∙ ap (λ k. drop k (x ∷ s)) (sym m) }

ends-part : (n : ℕ) (body s : List ℕ) → n ≤ length s → Ends body (drop n s) → Ends body s
ends-part n body s l e =
    let d = length-drop n s in
    let m : n + (length (drop n s) - length body) ≡ length s - length body = omega (arith, l, d, e.short) in
    record { short = omega (arith, l, d, e.short); so = e.so ∙ drop-drop (length (drop n s) - length body) n s ∙ ap (λ k. drop k s) m }

-- ---- the first body of tag 5 does

abbrev Lasts : (List ℕ → Fields) → List ℕ → ℕ → Type 0
Lasts rest s last = bad_from last (rest s) ≡ false → length (bodies 5 (rest s)) ≡ 1 → Ends (get_or (bodies 5 (rest s)) 0 []) s

first-last : (rest : List ℕ → Fields) → ((r : List ℕ) (last : ℕ) → Spanned rest r last) → ((r : List ℕ) (last : ℕ) → Lasts rest r last)
    → (s : List ℕ) (last : ℕ) → Lasts (first rest) s last
unfolding bad_from bodies
first-last rest g h [] last e c = absurd (omega (arith, c))
first-last rest g h (t ∷ []) last e c = absurd (true≢false e)
first-last rest g h (t ∷ a ∷ []) last e c = absurd (true≢false e)
first-last rest g h (t ∷ a ∷ b ∷ s) last e c = by (leb n (length s)) refl e c
  where
    n : ℕ
    n = big (a ∷ b ∷ [])

    more : List (List ℕ)
    more = bodies 5 (rest (drop n s))

    whole : Fields
    whole = field t (take n s) (rest (drop n s))

    after : (body : List ℕ) → Ends body s → Ends body (t ∷ a ∷ b ∷ s)
    after body w = ends-after t body (a ∷ b ∷ s) (ends-after a body (b ∷ s) (ends-after b body s w))

    place : ℕ
    place = place_of tag_rules t

    here : t ≡ 5 → n ≤ length s → bad_from place (rest (drop n s)) ≡ false → length (take n s ∷ more) ≡ 1 → Ends (take n s) (t ∷ a ∷ b ∷ s)
    here p l f d =
        let z : span_of (rest (drop n s)) ≡ 0 = no_more (rest (drop n s)) (rw p at f) (omega (arith, d)) in
        let m : length s ≤ n = omega (arith, l, z, g (drop n s) place f, length-drop n s) in
        after (take n s) (rw (take_all n s m) (ends-whole s))

    of-tag : (five : Bool) → eqb t 5 ≡ five → n ≤ length s → bad_from place (rest (drop n s)) ≡ false → length (cond five (take n s ∷ more) more) ≡ 1
        → Ends (get_or (cond five (take n s ∷ more) more) 0 []) (t ∷ a ∷ b ∷ s)
    of-tag true p l f k = here (eqb-true t 5 p) l f k
    of-tag false p l f k = after (get_or more 0 []) (ends-part n (get_or more 0 []) s l (h (drop n s) place f k))

    by : (w : Bool) → leb n (length s) ≡ w → bad_from last (cond w whole cut) ≡ false → length (bodies 5 (cond w whole cut)) ≡ 1
        → Ends (get_or (bodies 5 (cond w whole cut)) 0 []) (t ∷ a ∷ b ∷ s)
    by false d f k = absurd (true≢false f)
    by true d f k = of-tag (eqb t 5) refl (leb-true n (length s) d) (passes last t (take n s) (rest (drop n s)) f).others k

last_none : (r : List ℕ) (last : ℕ) → Lasts (λ s. cut) r last
unfolding bad_from
last_none r last e c = absurd (true≢false e)

last-parse : (f : ℕ) (s : List ℕ) (last : ℕ) → Lasts (parse f) s last
unfolding parse
last-parse zero s last e c = first-last (λ r. cut) span_none last_none s last e c
last-parse (suc f) s last e c = first-last (parse f) (span-parse f) (last-parse f) s last e c

pub five-last : (s : List ℕ) → bad_fields (fields_of s) ≡ false → Ends (body_at 5 0 (fields_of s)) s
unfolding fields_of body_at
five-last s e = last-parse (length s) s 0 (all_pass (fields_of s) e) (counted (fields_of s) e).fives
