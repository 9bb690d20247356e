-- What has been printed, counted and added grows by one more value.
--
--   printed-more    the values up to a place, and the next
--   kept-more       those that are kept, likewise
--   appends-both    what is written, and then more
use mathlib.Core.Path.{◌≡◌, refl, ap, sym}
use mathlib.Core.Bool.{Bool, true, false}
use mathlib.Core.List.{List, [], ◌∷◌, ◌++◌}
use Prim.Native.Nat.{ℕ, zero, suc, ◌+◌, ◌<◌, ◌≤◌}
use native.Mathlib.Omega.{arith}
use Rattle.std.proofs.Common.{length, take, get_or, append_assoc, append-nil, Option, None, Some}
use Rattle.std.specs.Io.KnownBytes.{Appends}
use Rattle.std.specs.Int.{from_bool}
use Rattle.worked.specs.Prints.{spaced}
use Rattle.worked.specs.Columns.{kept_from}

pub printed-more : {T : Type 0} (show : T → List ℕ) (xs : List T) (i : ℕ) (d : T) → i < length xs → spaced show (take (i + 1) xs) ≡ spaced show (take i xs) ++ (32 ∷ show (get_or xs i d))
unfolding spaced
printed-more show [] i d l = absurd (omega (arith, l))
printed-more show (x ∷ xs) zero d l = ap (λ t. 32 ∷ t) (append-nil (show x))
printed-more show (x ∷ xs) (suc i) d l =
    let next : i < length xs = omega (arith, l) in
    let more : suc i + 1 ≡ suc (i + 1) = omega arith in
    rw (more, printed-more show xs i d next, append_assoc) refl

pub kept-more : {T : Type 0} (same : T → T → Bool) (before : ℕ → T) (at : ℕ) (xs : List T) (i : ℕ) (d : T) → i < length xs → kept_from same before at (take (i + 1) xs) ≡ kept_from same before at (take i xs) + from_bool (same (get_or xs i d) (before (at + i)))
unfolding kept_from
kept-more same before at [] i d l = absurd (omega (arith, l))
kept-more same before at (x ∷ xs) zero d l = grind arith
kept-more same before at (x ∷ xs) (suc i) d l =
    let next : i < length xs = omega (arith, l) in
    let more : suc i + 1 ≡ suc (i + 1) = omega arith in
    let there : at + suc i ≡ at + 1 + i = omega arith in
    rw (more, there) (omega (arith, kept-more same before (at + 1) xs i d next))

pub appends-both : (a b c : Option (List ℕ)) (xs ys : List ℕ) → Appends a b xs → Appends b c ys → Appends a c (xs ++ ys)
appends-both None b c xs ys p q = tt
appends-both (Some a) None c xs ys p q = absurd p
appends-both (Some a) (Some b) None xs ys p q = absurd q
appends-both (Some a) (Some b) (Some c) xs ys p q = rw (q, p, append_assoc) refl

pub appends-none : (a : Option (List ℕ)) → Appends a a []
appends-none None = tt
appends-none (Some a) = sym (append-nil a)

pub one-more : (b : Bool) (n i : ℕ) → n ≤ i → n + from_bool b ≤ i + 1
one-more true n i l = omega (arith, l)
one-more false n i l = omega (arith, l)
