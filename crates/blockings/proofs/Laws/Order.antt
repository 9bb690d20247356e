-- R15: "They come in rising order of first, second and third word, each once."
--
--   Before vs ws     at the first place where the lists differ the word of vs is the lower one
--   in-order         of any two places, the list at the former comes before that at the latter
--   once             so no list comes twice
use Rattle.std.specs.Prelude.{◌≡◌, refl, ℕ, zero, suc, ◌^◌, ◌<◌, length, get_or}
use Rattle.std.proofs.Common.{ap, arith}
use mathlib.Core.List.Memᴰ
use mathlib.Core.List.{List, [], ◌∷◌, map, Memᴰ}
use Rattle.algebra.specs.Laws.Among.{Ordered, none, more, ordered-map, ordered-flat, ordered-those, ordered_at}
use Rattle.blockings.specs.Blockings.{lists_of, is_blocking, blockings_of}

pub record Before (vs ws : List ℕ) : Type 0 where
  pub place : ℕ
  pub same : (j : ℕ) → j < place → get_or vs j 0 ≡ get_or ws j 0
  pub lower : get_or vs place 0 < get_or ws place 0

same_first : (w : ℕ) (us vs : List ℕ) → Before us vs → Before (w ∷ us) (w ∷ vs)
same_first w us vs d = record { place = suc d.place; same = at; lower = d.lower }
  where
    at : (j : ℕ) → j < suc d.place → get_or (w ∷ us) j 0 ≡ get_or (w ∷ vs) j 0
    at zero h = refl
    at (suc j) h = d.same j (omega arith)

lower-first : (v w : ℕ) → v < w → (us vs : List ℕ) → Before (v ∷ us) (w ∷ vs)
lower-first v w h us vs = record { place = 0; same = λ j l. absurd (omega arith); lower = h }

ordered-lists : (k b : ℕ) → Ordered Before (lists_of k b)
unfolding lists_of
ordered-lists k zero = more (λ y m. absurd (Memᴰ.not-nil m)) none
ordered-lists k (suc b) =
    ordered-flat (2 ^ k) (λ w. map (λ ws. w ∷ ws) (lists_of k b))
    (λ w. ordered-map (λ ws. w ∷ ws) (same_first w) (ordered-lists k b))
    (λ v w h xs ys m n. across v w h xs ys (Memᴰ.of_map (λ ws. v ∷ ws) (lists_of k b) m) (Memᴰ.of_map (λ ws. w ∷ ws) (lists_of k b) n))
  where
    across : (v w : ℕ) → v < w → (xs ys : List ℕ) → (us : List ℕ) × Memᴰ us (lists_of k b) × (v ∷ us ≡ xs)
        → (us : List ℕ) × Memᴰ us (lists_of k b) × (w ∷ us ≡ ys) → Before xs ys
    across v w h xs ys s t = rw (← s.2, ← t.2) (lower-first v w h s.0 t.0)

module _ (k b i j : ℕ) (h : i < j) (l : j < length (blockings_of k b)) where
  pub in-order : Before (get_or (blockings_of k b) i []) (get_or (blockings_of k b) j [])
  unfolding blockings_of
  in-order = ordered_at [] (ordered-those (is_blocking k) (ordered-lists k b)) i j h l

  pub once : get_or (blockings_of k b) i [] ≡ get_or (blockings_of k b) j [] → ⊥
  once e = omega (arith, in-order.lower, ap (λ ws. get_or ws in-order.place 0) e)
