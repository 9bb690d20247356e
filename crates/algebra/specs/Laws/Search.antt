-- Laws on whether a test holds of some number below a bound.
--
--   some-true, some-false    `some n f` is true where f holds of a number below n, and false where it holds of none
--   some_at, none-at         where it is true there is such a number, and where it is false f fails at each
--   some-cong                tests that are the same below n hold of some number or of none alike
--   some-first               the first number apart from the others
--   some_listed              `some` over the places of a list is whether the test holds of an entry
use Rattle.std.specs.Prelude.{◌≡◌, refl, Bool, true, false, ◌||◌, List, [], ◌∷◌, ℕ, zero, suc, ◌<◌, length, get_or}
use Rattle.std.specs.List.{list_any}
use Rattle.std.proofs.Math.Bool.{or-true}
use Rattle.std.proofs.Math.Decide.{ℕ_discrete}
use Rattle.std.proofs.Common.{arith}
use Rattle.algebra.specs.Search.{some}

pub some-true : (n : ℕ) (f : ℕ → Bool) (i : ℕ) → i < n → f i ≡ true → some n f ≡ true
unfolding some
some-true zero f i h e = absurd (omega (arith, h))
some-true (suc n) f i h e = by (ℕ_discrete i n) (λ l. some-true n f i l e)
  where
    by : Dec (i ≡ n) → (i < n → some n f ≡ true) → (some n f || f n) ≡ true
    by (yes p) r = rw (← p, e) (or-true (some i f))
    by (no p) r = rw (r (omega arith))

pub some-false : (n : ℕ) (f : ℕ → Bool) → ((i : ℕ) → i < n → f i ≡ false) → some n f ≡ false
unfolding some
some-false zero f h = refl
some-false (suc n) f h = rw (some-false n f (λ i l. h i (omega arith))) (h n (omega arith))

pub some_at : (n : ℕ) (f : ℕ → Bool) → some n f ≡ true → (i : ℕ) × (i < n) × (f i ≡ true)
unfolding some
some_at zero f e = absurd (let z : ◌≡◌ {A = ℕ} 0 1 = cc in omega arith)
some_at (suc n) f e = by (some n f) (some_at n f) e
  where
    by : (b : Bool) → (b ≡ true → (i : ℕ) × (i < n) × (f i ≡ true)) → (b || f n) ≡ true → (i : ℕ) × (i < suc n) × (f i ≡ true)
    by true r d = let s = r refl in (s.0, omega (arith, s.1), s.2)
    by false r d = (n, omega arith, d)

pub none-at : (n : ℕ) (f : ℕ → Bool) → some n f ≡ false → (i : ℕ) → i < n → f i ≡ false
none-at n f e i h = by (f i) refl
  where
    by : (b : Bool) → f i ≡ b → f i ≡ false
    by false d = d
    by true d = absurd (let t : some n f ≡ true = some-true n f i h d in let z : ◌≡◌ {A = ℕ} 0 1 = cc in omega arith)

pub some-cong : (n : ℕ) {f g : ℕ → Bool} → ((i : ℕ) → i < n → f i ≡ g i) → some n f ≡ some n g
unfolding some
some-cong zero h = refl
some-cong (suc n) h = rw (some-cong n (λ i l. h i (omega arith)), h n (omega arith)) refl

pub some-first : (n : ℕ) (f : ℕ → Bool) → some (suc n) f ≡ (f 0 || some n (λ i. f (suc i)))
unfolding some
some-first zero f = by (f 0)
  where
    by : (b : Bool) → b ≡ (b || false)
    by true = refl
    by false = refl
some-first (suc n) f = rw (some-first n f) (by (f 0) (some n (λ i. f (suc i))) (f (suc n)))
  where
    by : (a b c : Bool) → ((a || b) || c) ≡ (a || (b || c))
    by true b c = refl
    by false b c = refl

pub some_listed : {A : Type 0} (f : A → Bool) (d : A) (xs : List A) → some (length xs) (λ i. f (get_or xs i d)) ≡ list_any f xs
unfolding some
some_listed f d [] = refl
some_listed f d (x ∷ xs) = rw (some-first (length xs) (λ i. f (get_or (x ∷ xs) i d)), ← (some_listed f d xs)) refl
