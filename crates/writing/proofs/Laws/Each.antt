-- Fields of one tag, one after the other.
--
--   each-whole    they are whole where their bodies are short
--   each-fine     refusal 1 lets them pass where it lets their bodies and the rest
--   each-other    they are no fields of another tag
--   each-count    so many are added to those of their own tag
--   each_at       their bodies in order
--   each-past     and what comes after them
use Rattle.std.specs.Prelude.{◌≡◌, refl, true, false, List, [], ℕ, zero, suc, ◌+◌, ◌-◌, ◌≤◌, ◌<◌, length, get_or}
use Rattle.std.proofs.Common.{sym, le_refl, zero-add, arith, le-ltb, eq-eqb, ne_eqb}
use Rattle.std.proofs.Math.Nat.{sub-zero}
use Rattle.fields.specs.Fields.{Fields, bodies}
use Rattle.fields.specs.Tags.{tag_rules, admits, place_of, bad_from}
use Rattle.writing.specs.Writer.{each}
use Rattle.writing.proofs.Laws.Back.{Whole}

pub each-whole : (t n : ℕ) (body : ℕ → List ℕ) (rest : Fields) → ((i : ℕ) → length (body i) < 65536) → Whole rest → Whole (each t n body rest)
unfolding each
each-whole t zero body rest h w = w
each-whole t (suc n) body rest h w = (h 0, each-whole t n (λ i. body (suc i)) rest (λ i. h (suc i)) w)

pub each-fine : (t n : ℕ) (body : ℕ → List ℕ) (rest : Fields) → ((i : ℕ) → admits tag_rules t (length (body i)) ≡ true)
    → ((last : ℕ) → last ≤ place_of tag_rules t → bad_from last rest ≡ false) → (last : ℕ) → last ≤ place_of tag_rules t
    → bad_from last (each t n body rest) ≡ false
unfolding each bad_from
each-fine t zero body rest h r last l = r last l
each-fine t (suc n) body rest h r last l =
    rw (le-ltb (place_of tag_rules t) last l, h 0) (each-fine t n (λ i. body (suc i)) rest (λ i. h (suc i)) r (place_of tag_rules t) (le_refl (place_of tag_rules t)))

pub each-other : (t n : ℕ) (body : ℕ → List ℕ) (rest : Fields) (u : ℕ) → (t ≡ u → ⊥) → bodies u (each t n body rest) ≡ bodies u rest
unfolding each bodies
each-other t zero body rest u d = refl
each-other t (suc n) body rest u d = rw (ne_eqb t u d) (each-other t n (λ i. body (suc i)) rest u d)

pub each-count : (t n : ℕ) (body : ℕ → List ℕ) (rest : Fields) → length (bodies t (each t n body rest)) ≡ n + length (bodies t rest)
unfolding each bodies
each-count t zero body rest = sym (zero-add (length (bodies t rest)))
each-count t (suc n) body rest = rw (eq-eqb t t refl, each-count t n (λ i. body (suc i)) rest) (omega arith)

pub each_at : (t n : ℕ) (body : ℕ → List ℕ) (rest : Fields) (i : ℕ) → i < n → get_or (bodies t (each t n body rest)) i [] ≡ body i
unfolding each bodies
each_at t zero body rest i h = absurd (omega (arith, h))
each_at t (suc n) body rest zero h = rw (eq-eqb t t refl) refl
each_at t (suc n) body rest (suc i) h = rw (eq-eqb t t refl) (each_at t n (λ j. body (suc j)) rest i (omega arith))

pub each-past : (t n : ℕ) (body : ℕ → List ℕ) (rest : Fields) (i : ℕ) → n ≤ i → get_or (bodies t (each t n body rest)) i [] ≡ get_or (bodies t rest) (i - n) []
unfolding each bodies
each-past t zero body rest i h = rw (sub-zero i) refl
each-past t (suc n) body rest zero h = absurd (omega (arith, h))
each-past t (suc n) body rest (suc i) h =
    let e : suc i - suc n ≡ i - n = omega arith in
    rw (eq-eqb t t refl, e) (each-past t n (λ j. body (suc j)) rest i (omega arith))
