-- Laws of the list of a function's first n values.
--
--   length-tab    its length
--   get_or-tab    its entry at i
--   is-tab        a list of n entries that are those of f
--   tab-cong      functions that agree below n
--   tab-set       one entry written
--   get_d_past     an entry past the end of a list
use Rattle.std.specs.Prelude.{◌≡◌, List, [], ◌∷◌, length, get_or, set}
use Rattle.std.proofs.Math.Path.{refl, ap}
use Rattle.std.proofs.Common.{sym, ◌∙◌, suc-add, add-zero, zero-add, arith, length-set, ext_get_or, get_or-set_same, get_or-set_other}
use Prim.Native.Nat.{ℕ, zero, suc, ◌+◌, ◌<◌, ◌≤◌}
use Rattle.std.proofs.Math.Nat.{add-suc}
use Rattle.std.proofs.Math.Decide.{ℕ_discrete}
use Rattle.algebra.specs.Tab.{tab_from, tab}

module _ {A : Type 0} where
  length_from : (s n : ℕ) (f : ℕ → A) → length (tab_from s n f) ≡ n
  unfolding tab_from
  length_from s zero f = refl
  length_from s (suc n) f = ap suc (length_from (suc s) n f)

  pub length-tab : (n : ℕ) (f : ℕ → A) → length (tab n f) ≡ n
  length-tab n f = length_from 0 n f

  module _ (z : A) where
    get_or-from : (s n : ℕ) (f : ℕ → A) (i : ℕ) → i < n → get_or (tab_from s n f) i z ≡ f (s + i)
    unfolding tab_from
    get_or-from s zero f i h = absurd (omega arith)
    get_or-from s (suc n) f zero h = rw (add-zero s)
    get_or-from s (suc n) f (suc i) h = get_or-from (suc s) n f i (omega arith) ∙ rw (suc-add s i, add-suc s i)

    pub get_or-tab : (n : ℕ) (f : ℕ → A) (i : ℕ) → i < n → get_or (tab n f) i z ≡ f i
    get_or-tab n f i h = get_or-from 0 n f i h ∙ rw (zero-add i)

    pub is-tab : (xs : List A) (n : ℕ) (f : ℕ → A) → length xs ≡ n → ((i : ℕ) → i < n → get_or xs i z ≡ f i) → xs ≡ tab n f
    is-tab xs n f l h =
        ext_get_or z xs (tab n f) (l ∙ sym (length-tab n f))
        (λ i k. let k' : i < n = omega arith in h i k' ∙ sym (get_or-tab n f i k'))

    pub tab-cong : (n : ℕ) (f g : ℕ → A) → ((i : ℕ) → i < n → f i ≡ g i) → tab n f ≡ tab n g
    tab-cong n f g h = is-tab (tab n f) n g (length-tab n f) (λ i k. get_or-tab n f i k ∙ h i k)

    pub tab-set : (n i : ℕ) (f g : ℕ → A) (v : A) (xs : List A) → xs ≡ tab n f → v ≡ g i
        → ((j : ℕ) → j < n → (j ≡ i → ⊥) → f j ≡ g j) → set xs i v ≡ tab n g
    tab-set n i f g v xs e own others =
        is-tab (set xs i v) n g (length-set xs i v ∙ long) (λ j k. by j k (ℕ_discrete j i))
      where
        long : length xs ≡ n
        long = rw e (length-tab n f)

        by : (j : ℕ) → j < n → Dec (j ≡ i) → get_or (set xs i v) j z ≡ g j
        by j k (yes d) = rw d (get_or-set_same xs i v z (omega (arith, long)) ∙ own)
        by j k (no d) = get_or-set_other xs i j v z d ∙ rw e (get_or-tab n f j k) ∙ others j k d

    pub get_d_past : (xs : List A) (i : ℕ) → length xs ≤ i → get_or xs i z ≡ z
    get_d_past [] i h = refl
    get_d_past (x ∷ xs) zero h = absurd (omega arith)
    get_d_past (x ∷ xs) (suc i) h = get_d_past xs i (omega arith)
