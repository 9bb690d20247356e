-- The walk over a sheet, from field to field.
--
--   short, cut_short, whole_first    what the bytes begin with: no field, where they are too few, or one
--   walk                             the walk gives the fields that are whole
--   tagged t xs                      those of tag t
--   counted, sought                  how many there are of a tag, and one of them
use mathlib.Core.Path.{◌≡◌, refl, sym, ap, subst, ◌∙◌}
use mathlib.Core.Bool.{Bool, true, false, cond}
use mathlib.Core.List.{List, [], ◌∷◌}
use Prim.Native.Nat.{ℕ, zero, suc, ◌-◌, ◌≤◌, ◌<◌}
use native.Mathlib.Omega.{arith}
use borrow.Author.Tests.{le-leb, lt-leb}
use lib.Dec.{eqb}
use lib.ListN.{length, take, drop, get_or, length-drop}
use lib.Seq.{take_all}
use Rattle.std.specs.Prelude.{Option, None, Some, MatchOption}
use Rattle.std.specs.Option.{option_map}
use Rattle.std.specs.List.{filter, IsSplitAt, slice_get}
use Rattle.std.proofs.lemmas.Iterator.{YieldsList}
use Rattle.std.proofs.lemmas.Iterator.Consumers.{YieldsList-from_shown}
use Rattle.numerals.specs.Numbers.{big}
use Rattle.fields.specs.Fields.{Fields, end, cut, field, fields_of, bodies, body_at}
use Rattle.fields.specs.Laws.Enough.{field-first}
use Rattle.fields.specs.Inner.Walk.{whole, Gives}
use Rattle.fields.specs.declared.walks.Field.{Field}
use Rattle.fields.specs.declared.walks.Fields.{Fields as Walk}

-- ---- what the bytes begin with

pub short : (s : List ℕ) → length s < 3 → whole (fields_of s) ≡ []
unfolding whole
short [] h = ap whole (field-first [])
short (a ∷ []) h = ap whole (field-first (a ∷ []))
short (a ∷ b ∷ []) h = ap whole (field-first (a ∷ b ∷ []))
short (a ∷ b ∷ c ∷ s) h = absurd (no (length s) h)
  where
    no : (n : ℕ) → suc (suc (suc n)) < 3 → ⊥
    no n h = omega arith

-- what follows a tag and a length
others : (s : List ℕ) → take (length s - 3) (drop 3 s) ≡ drop 3 s
others s = take_all (length s - 3) (drop 3 s) (rw length-drop (omega arith))

module _ {n : ℕ} where
  cut-three : (s : List ℕ) → 3 ≤ length s → n ≡ big (get_or s 1 0 ∷ get_or s 2 0 ∷ []) → length (drop 3 s) < n → whole (fields_of s) ≡ []
  unfolding whole
  cut-three [] h e k = absurd (omega (arith, h))
  cut-three (a ∷ []) h e k = absurd (omega (arith, h))
  cut-three (a ∷ b ∷ []) h e k = absurd (omega (arith, h))
  cut-three (t ∷ a ∷ b ∷ s) h e k = ap whole (field-first (t ∷ a ∷ b ∷ s)) ∙ rw (← e, lt-leb n (length s) k) refl

  first-three : (s : List ℕ) → 3 ≤ length s → n ≡ big (get_or s 1 0 ∷ get_or s 2 0 ∷ []) → n ≤ length (drop 3 s)
      → fields_of s ≡ field (get_or s 0 0) (take n (drop 3 s)) (fields_of (drop n (drop 3 s)))
  first-three [] h e k = absurd (omega (arith, h))
  first-three (a ∷ []) h e k = absurd (omega (arith, h))
  first-three (a ∷ b ∷ []) h e k = absurd (omega (arith, h))
  first-three (t ∷ a ∷ b ∷ s) h e k = field-first (t ∷ a ∷ b ∷ s) ∙ rw (← e, le-leb n (length s) k) refl

  module _ (s : List ℕ) (h : 3 ≤ length s) (e : n ≡ big (get_or s 1 0 ∷ get_or s 2 0 ∷ [])) where
    pub cut_short : length (take (length s - 3) (drop 3 s)) < n → whole (fields_of s) ≡ []
    cut_short k = cut-three s h e (rw (← others s) k)

    pub whole_first : {body rest : List ℕ} → IsSplitAt (take (length s - 3) (drop 3 s)) n body rest → fields_of s ≡ field (get_or s 0 0) body (fields_of rest)
    whole_first k =
        let i : n ≤ length (drop 3 s) = rw (← others s) k.0 in
        first-three s h e i ∙ rw (k.1, k.2, others s) refl

-- ---- the walk

abbrev pub gives : Walk → Option Field → Walk → Type 0
gives s r t = Gives (fields_of s.rest.now) r (fields_of t.rest.now)

abbrev pub view : Field → ℕ × List ℕ
view f = (f.tag, f.body.now)

pub walk : (s : Walk) → YieldsList gives view s (whole (fields_of s.rest.now))
unfolding whole
walk = YieldsList-from_shown gives view (λ s. whole (fields_of s.rest.now)) (λ s t h. ap length h.0) (λ s x t h. ap whole h)

-- ---- the fields of a tag

abbrev pub tagged : ℕ → List (ℕ × List ℕ) → List (ℕ × List ℕ)
tagged t xs = filter (λ f. eqb f.0 t) xs

pub counted : (t : ℕ) (fs : Fields) → length (tagged t (whole fs)) ≡ length (bodies t fs)
unfolding whole bodies
counted t end = refl
counted t cut = refl
counted t (field u body rest) = by (eqb u t) (counted t rest)
  where
    by : (b : Bool) → length (tagged t (whole rest)) ≡ length (bodies t rest)
        → length (cond b ((u, body) ∷ tagged t (whole rest)) (tagged t (whole rest))) ≡ length (cond b (body ∷ bodies t rest) (bodies t rest))
    by true e = ap suc e
    by false e = e

pub sought : (t i : ℕ) (fs : Fields) → MatchOption (slice_get (tagged t (whole fs)) i) (body_at t i fs ≡ []) (λ f. body_at t i fs ≡ f.1)
unfolding whole bodies body_at
sought t i end = refl
sought t i cut = refl
sought t i (field u body rest) = by (eqb u t) i (λ j. sought t j rest)
  where
    by : (b : Bool) (i : ℕ) → ((j : ℕ) → MatchOption (slice_get (tagged t (whole rest)) j) (body_at t j rest ≡ []) (λ f. body_at t j rest ≡ f.1))
        → MatchOption
        (slice_get (cond b ((u, body) ∷ tagged t (whole rest)) (tagged t (whole rest))) i)
        (get_or (cond b (body ∷ bodies t rest) (bodies t rest)) i [] ≡ [])
        (λ f. get_or (cond b (body ∷ bodies t rest) (bodies t rest)) i [] ≡ f.1)
    by true zero h = refl
    by true (suc i) h = h i
    by false i h = h i

-- the field that the walk found, if there is one
pub at-place : (t i : ℕ) (fs : Fields) (r : Option Field) {bytes : List ℕ} → option_map view r ≡ slice_get (tagged t (whole fs)) i
    → MatchOption r (bytes ≡ []) (λ f. bytes ≡ f.body.now) → bytes ≡ body_at t i fs
at-place t i fs r {bytes} e h = by r h (subst (λ o. MatchOption o (body_at t i fs ≡ []) (λ f. body_at t i fs ≡ f.1)) (sym e) (sought t i fs))
  where
    by : (r : Option Field) → MatchOption r (bytes ≡ []) (λ f. bytes ≡ f.body.now)
        → MatchOption (option_map view r) (body_at t i fs ≡ []) (λ f. body_at t i fs ≡ f.1) → bytes ≡ body_at t i fs
    by None h k = h ∙ sym k
    by (Some f) h k = h ∙ sym k
