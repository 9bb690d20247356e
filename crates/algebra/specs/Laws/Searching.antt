-- The loop that looks for a number of which a test holds: the one that stops there, and the one that looks at all numbers.
--
--   Unfound f n i                      a loop up to n has found none below i
--   unfound, onward, found, nowhere    at its start, at its next turn, where it finds one, at its end
--   Seen f n i b                       a loop up to n that looks at all numbers has seen those below i, and b is whether one was found
--   seen_none, seen_more, seen_all     at its start, at its next turn, at its end
use Rattle.std.specs.Prelude.{◌≡◌, Bool, true, false, ◌||◌, ℕ, ◌+◌, ◌<◌, ◌≤◌}
use Rattle.std.proofs.Math.Path.{refl}
use Rattle.std.proofs.Common.{sym, ap, ◌∙◌, add-one, arith}
use Rattle.algebra.specs.Search.{some}
use Rattle.algebra.specs.Laws.Search.{some-true}

-- ---- the loop

pub record Unfound (f : ℕ → Bool) (n i : ℕ) : Type 0 where
  pub within : i ≤ n
  pub so : some i f ≡ false

pub unfound : (f : ℕ → Bool) (n : ℕ) → Unfound f n 0
unfolding some
unfound f n = record { within = omega arith; so = refl }

module _ {f : ℕ → Bool} {n i : ℕ} (w : Unfound f n i) where
  pub onward : i < n → f i ≡ false → Unfound f n (i + 1)
  unfolding some
  onward h e = record { within = omega arith; so = rw (add-one i, w.so) e }

  pub found : i < n → f i ≡ true → true ≡ some n f
  found h e = sym (some-true n f i h e)

  pub nowhere : n ≤ i → false ≡ some n f
  nowhere h = let e : i ≡ n = omega (arith, w.within) in sym w.so ∙ ap (λ (m : ℕ). some m f) e

-- ---- the loop that looks at all numbers

pub record Seen (f : ℕ → Bool) (n i : ℕ) (b : Bool) : Type 0 where
  pub within : i ≤ n
  pub so : b ≡ some i f

pub seen_none : (f : ℕ → Bool) (n : ℕ) → Seen f n 0 false
unfolding some
seen_none f n = record { within = omega arith; so = refl }

module _ {f : ℕ → Bool} {n i : ℕ} {b : Bool} (w : Seen f n i b) where
  pub seen_more : i < n → {t : Bool} → t ≡ f i → Seen f n (i + 1) (b || t)
  unfolding some
  seen_more h e = record { within = omega arith; so = rw (add-one i, w.so, e) refl }

  pub seen_all : n ≤ i → b ≡ some n f
  seen_all h = let e : i ≡ n = omega (arith, w.within) in w.so ∙ ap (λ (m : ℕ). some m f) e
