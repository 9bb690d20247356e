-- The readings of a body, as a list.
--
--   readings-long                  how many there are
--   reading-is                     each of them
--   readings-put, readings-kept    a column of as many places takes them, and no other
--   readings-fours                 they are what each four bytes write
--   fours_long                     of which there are as many
--   any-beyond-map                 one is beyond a limit where one of the four bytes is
use Rattle.std.specs.Prelude.{◌≡◌, refl, Bool, ◌||◌, List, [], ◌∷◌, ℕ, zero, suc, ◌+◌, ◌*◌, ◌/◌, ◌<◌, ◌≤◌, ℤ, pos, length, get_or, drop, map}
use Rattle.std.specs.List.{list_any}
use Rattle.std.specs.Simd.{first_chunks}
use Rattle.std.proofs.Common.{sym, ap, ◌∙◌, arith, eq-eqb, ne_eqb}
use Rattle.std.proofs.lemmas.List.{length-map, get_or-map}
use Rattle.algebra.specs.Laws.Tab.{length-tab, get_or-tab, is-tab}
use Rattle.contrasts.specs.Columns.{read}
use Rattle.plan.specs.Limits.{is_beyond}
use Rattle.numerals.specs.Numbers.{big, twos}
use Rattle.columns.specs.Refusals.{any_beyond}
use Rattle.columns.specs.Copies.{copied}
use Rattle.contents.specs.Contents.{reading_at, readings_of}

pub readings-long : (body : List ℕ) → length (readings_of body) ≡ length body / 4
unfolding readings_of
readings-long body = length-tab (length body / 4) (reading_at body)

pub reading-is : (body : List ℕ) (i : ℕ) → i < length body / 4 → read (readings_of body) i ≡ reading_at body i
unfolding readings_of
reading-is body i h = get_or-tab (pos 0) (length body / 4) (reading_at body) i h

pub readings-put : (body : List ℕ) (column : List ℤ) → length column ≡ length body / 4 → copied (readings_of body) column ≡ readings_of body
unfolding copied
readings-put body column e = rw (eq-eqb (length (readings_of body)) (length column) (readings-long body ∙ sym e)) refl

pub readings-kept : (body : List ℕ) (column : List ℤ) → (length column ≡ length body / 4 → ⊥) → column ≡ copied (readings_of body) column
unfolding copied
readings-kept body column h = rw (ne_eqb (length (readings_of body)) (length column) (λ e. h (sym e ∙ readings-long body))) refl

-- ---- by four bytes

chunk-at : (n i : ℕ) (s : List ℕ) → i < n → 4 * n ≤ length s
    → get_or (first_chunks 4 n s) i [] ≡ get_or s (4 * i) 0 ∷ get_or s (4 * i + 1) 0 ∷ get_or s (4 * i + 2) 0 ∷ get_or s (4 * i + 3) 0 ∷ []
chunk-at zero i s h k = absurd (omega (arith, h))
chunk-at (suc n) i [] h k = absurd (omega (arith, k))
chunk-at (suc n) i (a ∷ []) h k = absurd (omega (arith, k))
chunk-at (suc n) i (a ∷ b ∷ []) h k = absurd (omega (arith, k))
chunk-at (suc n) i (a ∷ b ∷ c ∷ []) h k = absurd (omega (arith, k))
chunk-at (suc n) zero (a ∷ b ∷ c ∷ d ∷ s) h k = refl
chunk-at (suc n) (suc i) (a ∷ b ∷ c ∷ d ∷ s) h k =
    let e : 4 * suc i ≡ suc (suc (suc (suc (4 * i)))) = omega arith in
    let e1 : 4 * suc i + 1 ≡ suc (suc (suc (suc (4 * i + 1)))) = omega arith in
    let e2 : 4 * suc i + 2 ≡ suc (suc (suc (suc (4 * i + 2)))) = omega arith in
    let e3 : 4 * suc i + 3 ≡ suc (suc (suc (suc (4 * i + 3)))) = omega arith in
    rw (e1, e2, e3, e) (chunk-at n i s (omega (arith, h)) (omega (arith, k)))

long-chunks : (n : ℕ) (s : List ℕ) → length (first_chunks 4 n s) ≡ n
long-chunks zero s = refl
long-chunks (suc n) s = ap suc (long-chunks n (drop 4 s))

pub readings-fours : (body : List ℕ) → map (λ four. twos 32 (big four)) (first_chunks 4 (length body / 4) body) ≡ readings_of body
unfolding readings_of reading_at
readings-fours body =
    let f : List ℕ → ℤ = λ four. twos 32 (big four) in
    let fours = first_chunks 4 (length body / 4) body in
    let long = long-chunks (length body / 4) body in
    is-tab (pos 0) (map f fours) (length body / 4) (reading_at body) (length-map fours f ∙ long)
    (λ i h. get_or-map f fours i [] (pos 0) (rw long h) ∙ ap f (chunk-at (length body / 4) i body h (omega arith)))

pub fours_long : (body : List ℕ) (fours : List (List ℕ)) → map (λ four. twos 32 (big four)) fours ≡ readings_of body → length fours ≡ length body / 4
fours_long body fours e = sym (length-map fours (λ four. twos 32 (big four))) ∙ ap length e ∙ readings-long body

any-map : {A B : Type 0} (test : B → Bool) (f : A → B) (xs : List A) → list_any (λ x. test (f x)) xs ≡ list_any test (map f xs)
any-map test f [] = refl
any-map test f (x ∷ xs) = ap (λ b. test (f x) || b) (any-map test f xs)

pub any-beyond-map : (limit : ℕ) (body : List ℕ) (fours : List (List ℕ)) → map (λ four. twos 32 (big four)) fours ≡ readings_of body
    → list_any (λ four. is_beyond limit (twos 32 (big four))) fours ≡ any_beyond limit (readings_of body)
unfolding any_beyond
any-beyond-map limit body fours e = any-map (is_beyond limit) (λ four. twos 32 (big four)) fours ∙ ap (list_any (is_beyond limit)) e
