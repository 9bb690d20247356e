-- What is among the entries of a list, and lists whose entries come in an order.
--
--   those-in, those-of     what is among those that pass a test: it passes, and is among all
--   flat_in, flat-of       what is among lists joined: it is among one of them
--   tab-in, tab-of         what is among the values of a function
--   in-at, at_of           what stands at a place is among the entries, and each of them stands at one
--   Ordered R xs           each entry of xs stands in the relation R to all that come after it
--   ordered-append, ordered-map, ordered-those, ordered-flat    of lists joined, of a function of each entry, of those that pass, of many lists
--                          joined
--   ordered_at             so do the entries at any two places
use Rattle.std.proofs.Math.Path.{◌≡◌, refl, ap}
use Rattle.std.proofs.Common.{sym, ◌∙◌, inl, inr, ⊎_elim}
use Rattle.std.specs.Prelude.{Bool, cond, ◌⊎◌, length, get_or}
use Rattle.std.proofs.Math.Bool.{true, false}
use mathlib.Core.List.{List, [], ◌∷◌, ◌++◌, map, flatten}
use mathlib.Core.List.Memᴰ
use mathlib.Core.List.{Memᴰ}
use Prim.Native.Nat.{ℕ, zero, suc, ◌+◌, ◌<◌, ◌≤◌}
use native.Mathlib.Omega.{arith}
use Rattle.std.proofs.Math.Decide.{ℕ_discrete}
use Rattle.algebra.specs.Tab.{tab, tab_from}
use Rattle.algebra.specs.Those.{those}

-- ---- those that pass

module _ {A : Type 0} (test : A → Bool) where
  pub those-in : {x : A} (xs : List A) → Memᴰ x xs → test x ≡ true → Memᴰ x (those test xs)
  unfolding those
  those-in [] m e = m
  those-in {x} (y ∷ ys) m e = by (test y) refl (Memᴰ.cases_cons m) (λ n. those-in ys n e)
    where
      by : (b : Bool) → test y ≡ b → (x ≡ y) ⊎ Memᴰ x ys → (Memᴰ x ys → Memᴰ x (those test ys))
          → Memᴰ x (cond b (y ∷ those test ys) (those test ys))
      by true q (inl d) r = Memᴰ.head d
      by true q (inr n) r = Memᴰ.tail (r n)
      by false q (inl d) r = absurd (let z : ◌≡◌ {A = ℕ} 0 1 = cc in omega arith)
      by false q (inr n) r = r n

  pub those-of : {x : A} (xs : List A) → Memᴰ x (those test xs) → Memᴰ x xs × (test x ≡ true)
  unfolding those
  those-of [] m = absurd (Memᴰ.not-nil m)
  those-of {x} (y ∷ ys) m = by (test y) refl m (λ n. those-of ys n)
    where
      first : test y ≡ true → (x ≡ y) ⊎ Memᴰ x (those test ys) → (Memᴰ x (those test ys) → Memᴰ x ys × (test x ≡ true))
          → Memᴰ x (y ∷ ys) × (test x ≡ true)
      first q (inl d) r = (Memᴰ.head d, ap test d ∙ q)
      first q (inr n) r = let s = r n in (Memᴰ.tail s.0, s.1)

      by : (b : Bool) → test y ≡ b → Memᴰ x (cond b (y ∷ those test ys) (those test ys))
          → (Memᴰ x (those test ys) → Memᴰ x ys × (test x ≡ true)) → Memᴰ x (y ∷ ys) × (test x ≡ true)
      by true q n r = first q (Memᴰ.cases_cons n) r
      by false q n r = let s = r n in (Memᴰ.tail s.0, s.1)

-- ---- lists joined

module _ {A : Type 0} where
  pub flat_in : {x : A} {l : List A} (ls : List (List A)) → Memᴰ l ls → Memᴰ x l → Memᴰ x (flatten ls)
  unfolding flatten
  flat_in [] m n = absurd (Memᴰ.not-nil m)
  flat_in {x} {l} (k ∷ ks) m n = by (Memᴰ.cases_cons m) (λ r. flat_in ks r n)
    where
      by : (l ≡ k) ⊎ Memᴰ l ks → (Memᴰ l ks → Memᴰ x (flatten ks)) → Memᴰ x (k ++ flatten ks)
      by (inl d) r = Memᴰ.append_left (flatten ks) (rw d at n)
      by (inr p) r = Memᴰ.append_right k (r p)

  pub flat-of : {x : A} (ls : List (List A)) → Memᴰ x (flatten ls) → (l : List A) × Memᴰ l ls × Memᴰ x l
  unfolding flatten
  flat-of [] m = absurd (Memᴰ.not-nil m)
  flat-of {x} (k ∷ ks) m = by (Memᴰ.append_cases k m) (λ n. flat-of ks n)
    where
      by : Memᴰ x k ⊎ Memᴰ x (flatten ks) → (Memᴰ x (flatten ks) → (l : List A) × Memᴰ l ks × Memᴰ x l)
          → (l : List A) × Memᴰ l (k ∷ ks) × Memᴰ x l
      by (inl n) r = (k, Memᴰ.head refl, n)
      by (inr n) r = let s = r n in (s.0, Memᴰ.tail s.1, s.2)

-- ---- values of a function

module _ {A : Type 0} where
  from_in : (f : ℕ → A) (s n i : ℕ) → s ≤ i → i < s + n → Memᴰ (f i) (tab_from s n f)
  unfolding tab_from
  from_in f s zero i h k = absurd (omega arith)
  from_in f s (suc n) i h k = by (ℕ_discrete i s) (λ l. from_in f (suc s) n i l (omega arith))
    where
      by : Dec (i ≡ s) → (suc s ≤ i → Memᴰ (f i) (tab_from (suc s) n f)) → Memᴰ (f i) (f s ∷ tab_from (suc s) n f)
      by (yes d) r = Memᴰ.head (ap f d)
      by (no d) r = Memᴰ.tail (r (omega arith))

  from-of : (f : ℕ → A) (s n : ℕ) {x : A} → Memᴰ x (tab_from s n f) → (i : ℕ) × (s ≤ i) × (i < s + n) × (x ≡ f i)
  unfolding tab_from
  from-of f s zero m = absurd (Memᴰ.not-nil m)
  from-of f s (suc n) {x} m = by (Memᴰ.cases_cons m) (λ r. from-of f (suc s) n r)
    where
      by : (x ≡ f s) ⊎ Memᴰ x (tab_from (suc s) n f) → (Memᴰ x (tab_from (suc s) n f) → (i : ℕ) × (suc s ≤ i) × (i < suc s + n) × (x ≡ f i))
          → (i : ℕ) × (s ≤ i) × (i < s + suc n) × (x ≡ f i)
      by (inl d) r = (s, omega arith, omega arith, d)
      by (inr p) r = let t = r p in (t.0, omega (arith, t.1), omega (arith, t.2), t.3)

  pub tab-in : (n : ℕ) (f : ℕ → A) (i : ℕ) → i < n → Memᴰ (f i) (tab n f)
  tab-in n f i h = from_in f 0 n i (omega arith) (omega arith)

  pub tab-of : (n : ℕ) (f : ℕ → A) {x : A} → Memᴰ x (tab n f) → (i : ℕ) × (i < n) × (x ≡ f i)
  tab-of n f m = let t = from-of f 0 n m in (t.0, omega (arith, t.2), t.3)

  pub in-at : (z : A) (xs : List A) (j : ℕ) → j < length xs → Memᴰ (get_or xs j z) xs
  in-at z [] j h = absurd (omega arith)
  in-at z (x ∷ xs) zero h = Memᴰ.head refl
  in-at z (x ∷ xs) (suc j) h = Memᴰ.tail (in-at z xs j (omega arith))

  pub at_of : (z : A) (xs : List A) {x : A} → Memᴰ x xs → (i : ℕ) × (i < length xs) × (x ≡ get_or xs i z)
  at_of z [] m = absurd (Memᴰ.not-nil m)
  at_of z (y ∷ ys) {x} m = by (Memᴰ.cases_cons m) (λ r. at_of z ys r)
    where
      by : (x ≡ y) ⊎ Memᴰ x ys → (Memᴰ x ys → (i : ℕ) × (i < length ys) × (x ≡ get_or ys i z))
          → (i : ℕ) × (i < length (y ∷ ys)) × (x ≡ get_or (y ∷ ys) i z)
      by (inl d) r = (0, omega arith, d)
      by (inr p) r = let s = r p in (suc s.0, omega (arith, s.1), s.2)

-- ---- order

pub data Ordered {A : Type 0} (R : A → A → Type 0) : List A → Type 0 where
  none : Ordered R []
  more : {x : A} {xs : List A} → ((y : A) → Memᴰ y xs → R x y) → Ordered R xs → Ordered R (x ∷ xs)

module _ {A : Type 0} {R : A → A → Type 0} where
  pub ordered-append : {xs ys : List A} → Ordered R xs → Ordered R ys → ((x y : A) → Memᴰ x xs → Memᴰ y ys → R x y) → Ordered R (xs ++ ys)
  ordered-append none q h = q
  ordered-append {ys = ys} (more {x} {xs} f p) q h =
      more
      (λ y m. ⊎_elim (λ n. f y n) (λ n. h x y (Memᴰ.head refl) n) (Memᴰ.append_cases xs m))
      (ordered-append p q (λ a b m n. h a b (Memᴰ.tail m) n))

  pub ordered-those : (test : A → Bool) {xs : List A} → Ordered R xs → Ordered R (those test xs)
  unfolding those
  ordered-those test none = none
  ordered-those test (more {x} {xs} f p) = by (test x) (ordered-those test p)
    where
      by : (b : Bool) → Ordered R (those test xs) → Ordered R (cond b (x ∷ those test xs) (those test xs))
      by true q = more (λ y m. f y (those-of test xs m).0) q
      by false q = q

  pub ordered_at : (z : A) {xs : List A} → Ordered R xs → (i j : ℕ) → i < j → j < length xs → R (get_or xs i z) (get_or xs j z)
  ordered_at z none i j h k = absurd (omega arith)
  ordered_at z (more f p) i zero h k = absurd (omega arith)
  ordered_at z (more {x} {xs} f p) zero (suc j) h k = f (get_or xs j z) (in-at z xs j (omega arith))
  ordered_at z (more f p) (suc i) (suc j) h k = ordered_at z p i j (omega arith) (omega arith)

  -- lists whose entries come in the order, joined, where the entries of each come before those of the next
  from-flat : (f : ℕ → List A) → ((i : ℕ) → Ordered R (f i)) → ((i j : ℕ) → i < j → (x y : A) → Memᴰ x (f i) → Memᴰ y (f j) → R x y)
      → (s n : ℕ) → Ordered R (flatten (tab_from s n f))
  unfolding flatten tab_from
  from-flat f own across s zero = none
  from-flat f own across s (suc n) =
      ordered-append (own s) (from-flat f own across (suc s) n)
      (λ x y m q.
      let l = flat-of (tab_from (suc s) n f) q in
      let i = from-of f (suc s) n l.1 in
      across s i.0 i.1 x y m (rw i.3 at l.2))

  pub ordered-flat : (n : ℕ) (f : ℕ → List A) → ((i : ℕ) → Ordered R (f i))
      → ((i j : ℕ) → i < j → (x y : A) → Memᴰ x (f i) → Memᴰ y (f j) → R x y) → Ordered R (flatten (tab n f))
  ordered-flat n f own across = from-flat f own across 0 n

pub ordered-map : {A B : Type 0} {R : A → A → Type 0} {S : B → B → Type 0} (f : A → B) → ((x y : A) → R x y → S (f x) (f y))
    → {xs : List A} → Ordered R xs → Ordered S (map f xs)
ordered-map f h none = none
ordered-map {A} {B} {R} {S} f h (more {x} {xs} g p) = more across (ordered-map f h p)
  where
    across : (y : B) → Memᴰ y (map f xs) → S (f x) y
    across y m = let s = Memᴰ.of_map f xs m in rw (sym s.2) (h x s.0 (g s.0 s.1))
