-- Refusal 1 as the code judges it, field by field: b says whether the sheet is bad, as what is left of it says.
--
--   unknown, unfit             a field whose tag is unknown, or that has another length
--   falling, onward            one whose tag comes before that of the one before it, and one that is not bad
--   at_end                     after the last whole field the sheet is bad where bytes are left
use mathlib.Core.Path.{◌≡◌, refl, sym, ap, ◌∙◌}
use mathlib.Core.Bool.{Bool, true, false, not, cond, ◌||◌}
use mathlib.Core.List.{List, [], ◌∷◌, cons≢nil}
use Prim.Native.Nat.{ℕ, suc, ◌≤◌, ◌<◌}
use native.Mathlib.Omega.{arith}
use borrow.Author.Tests.{lt-ltb, le-ltb, ne_eqb}
use lib.Dec.{eqb, ltb}
use lib.ListN.{length}
use Rattle.fields.specs.Fields.{Fields, cut, field, first, fields_of}
use Rattle.fields.specs.Tags.{tag_rules, admits, place_of, bad_from}
use Rattle.fields.specs.Laws.Enough.{field-first}
use Rattle.fields.specs.Inner.Walk.{whole}

module _ (last : ℕ) {b : Bool} {fs : Fields} (so : b ≡ bad_from last fs) {t : ℕ} {body : List ℕ} {rest : Fields} (is : fs ≡ field t body rest) where
  opened : b ≡ (ltb (place_of tag_rules t) last || (not (admits tag_rules t (length body)) || bad_from (place_of tag_rules t) rest))
  unfolding bad_from
  opened = so ∙ ap (bad_from last) is

  pub unknown : ((n : ℕ) → admits tag_rules t n ≡ false) → true ≡ b
  unknown h = sym (opened ∙ rw (h (length body)) (by (ltb (place_of tag_rules t) last)))
    where
      by : (c : Bool) → (c || true) ≡ true
      by true = refl
      by false = refl

  module _ {u : ℕ} (same : u ≡ t) where
    pub unfit : {d : Bool} → d ≡ admits tag_rules u (length body) → d ≡ false → true ≡ b
    unfit e f = sym (opened ∙ rw (← same, ← e, f) (by (ltb (place_of tag_rules u) last)))
      where
        by : (c : Bool) → (c || true) ≡ true
        by true = refl
        by false = refl

    module _ {here : ℕ} (place : here ≡ place_of tag_rules u) where
      pub falling : here < last → true ≡ b
      falling h = sym (opened ∙ rw (← same, ← place, lt-ltb here last h) refl)

      pub onward : last ≤ here → {d : Bool} → d ≡ admits tag_rules u (length body) → d ≡ true → b ≡ bad_from here rest
      onward h e f = opened ∙ rw (← same, ← place, le-ltb here last h, ← e, f) refl

-- bytes that hold no whole field are bad, and no bytes are not
pub at_end : (last : ℕ) {b : Bool} {fs : Fields} → b ≡ bad_from last fs → whole fs ≡ [] → (s : List ℕ) → fields_of s ≡ fs → not (eqb (length s) 0) ≡ b
unfolding bad_from whole
at_end last so none [] is = sym (so ∙ ap (bad_from last) (sym is ∙ field-first []))
at_end last so none (a ∷ s) is =
    let first-is = sym is ∙ field-first (a ∷ s) in
    rw (ne_eqb (suc (length s)) 0 (λ d. omega (arith, d))) (sym (so ∙ ap (bad_from last) first-is ∙ by s (ap whole (sym first-is) ∙ none)))
  where
    cut-only : (c : Bool) (t : ℕ) (body : List ℕ) (rest : Fields) → whole (cond c (field t body rest) cut) ≡ [] → bad_from last (cond c (field t body rest) cut) ≡ true
    cut-only true t body rest d = absurd (cons≢nil d)
    cut-only false t body rest d = refl

    by : (s : List ℕ) → whole (first fields_of (a ∷ s)) ≡ [] → bad_from last (first fields_of (a ∷ s)) ≡ true
    by [] d = refl
    by (b ∷ []) d = refl
    by (b ∷ c ∷ s) d = cut-only _ _ _ _ d
