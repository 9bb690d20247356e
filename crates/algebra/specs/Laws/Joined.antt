-- Values one after the other, and lists joined.
--
--   tab-none, tab-first, tab-more, tab-plus    the values of a function: none; by the first, by the last, by the first m and the rest
--   map-tab                    a function of each value
--   flat_append, flat-one      lists of lists joined: of two of them, and of one list
--   tab-parts                  n lists of m values each, joined
--   flat-wide, flat-part, flat-at    lists of w entries each, joined: their length, one of the lists, and an entry
use Rattle.std.specs.Prelude.{◌≡◌, get_or, take, drop}
use Rattle.std.proofs.Math.Path.{refl, sym, ap}
use Rattle.std.proofs.Common.{◌∙◌, suc-add, zero-add, zero-mul, mod-eq_of_lt, add-one, length-append, get_or-take, get_or-drop, take_at}
use mathlib.Core.List.{List, [], ◌∷◌, ◌++◌, append_assoc, append-nil, map, flatten}
use Prim.Native.Nat.{ℕ, zero, suc, ◌+◌, ◌*◌, ◌/◌, ◌%◌, ◌<◌}
use Rattle.std.proofs.Math.Nat.{add-zero, suc-mul, div-eq_of_lt, mul-add-mod_self_right, mul-add-div_right}
use native.Mathlib.Omega.{arith}
use Rattle.std.proofs.Math.ListN.{length}
use Rattle.std.proofs.Math.Seq.{drop-append-add}
use Rattle.algebra.specs.Tab.{tab, tab_from}
use Rattle.algebra.specs.Laws.Tab.{tab-cong}

-- ---- values one after the other

module _ {A : Type 0} where
  shift : (s n : ℕ) (f : ℕ → A) → tab_from (suc s) n f ≡ tab_from s n (λ i. f (suc i))
  unfolding tab_from
  shift s zero f = refl
  shift s (suc n) f = ap (λ xs. f (suc s) ∷ xs) (shift (suc s) n f)

  pub tab-none : (f : ℕ → A) → tab 0 f ≡ []
  unfolding tab_from
  tab-none f = refl

  pub tab-first : (n : ℕ) (f : ℕ → A) → tab (suc n) f ≡ f 0 ∷ tab n (λ i. f (suc i))
  unfolding tab_from
  tab-first n f = ap (λ xs. f 0 ∷ xs) (shift 0 n f)

  pub tab-plus : (m n : ℕ) (f : ℕ → A) → tab (m + n) f ≡ tab m f ++ tab n (λ i. f (m + i))
  tab-plus zero n f = rw (tab-none f, zero-add n) (simp zero-add)
  tab-plus (suc m) n f =
      rw (suc-add m n, tab-first (m + n) f, tab-plus m n (λ i. f (suc i)), tab-first m f) (simp suc-add)

  pub tab-more : (n : ℕ) (f : ℕ → A) → tab (n + 1) f ≡ tab n f ++ (f n ∷ [])
  unfolding tab_from
  tab-more n f = tab-plus n 1 f ∙ simp add-zero

  from-map : {B : Type 0} (g : A → B) (s n : ℕ) (f : ℕ → A) → map g (tab_from s n f) ≡ tab_from s n (λ i. g (f i))
  unfolding tab_from
  from-map g s zero f = refl
  from-map g s (suc n) f = ap (λ xs. g (f s) ∷ xs) (from-map g (suc s) n f)

  pub map-tab : {B : Type 0} (g : A → B) (n : ℕ) (f : ℕ → A) → map g (tab n f) ≡ tab n (λ i. g (f i))
  map-tab g n f = from-map g 0 n f

-- ---- lists joined

module _ {A : Type 0} where
  pub flat_append : (xs ys : List (List A)) → flatten (xs ++ ys) ≡ flatten xs ++ flatten ys
  unfolding flatten
  flat_append [] ys = refl
  flat_append (x ∷ xs) ys = rw (flat_append xs ys, append_assoc) refl

  pub flat-one : (x : List A) → flatten (x ∷ []) ≡ x
  unfolding flatten
  flat-one x = append-nil x

  -- the number i of n lists of m values has the list as its higher digit to the base m, and the place in it as its lower one
  pub tab-parts : (z : A) (n m : ℕ) (f : ℕ → ℕ → A) → flatten (tab n (λ q. tab m (f q))) ≡ tab (n * m) (λ i. f (i / m) (i % m))
  unfolding flatten
  tab-parts z zero m f = rw (zero-mul m, tab-none {A = List A} (λ q. tab m (f q)), tab-none (λ i. f (i / m) (i % m))) refl
  tab-parts z (suc n) m f =
      rw (← (add-one n))
      (ap flatten (tab-more n (λ q. tab m (f q)))
      ∙ flat_append (tab n (λ q. tab m (f q))) (tab m (f n) ∷ [])
      ∙ rw (append-nil (tab m (f n)), tab-parts z n m f) (ap (λ xs. tab (n * m) g ++ xs) (tab-cong z m (f n) (λ i. g (n * m + i)) digits))
      ∙ sym (tab-plus (n * m) m g)
      ∙ (let e : n * m + m ≡ (n + 1) * m = omega arith in ap (λ (l : ℕ). tab l g) e))
    where
      g : ℕ → A
      g i = f (i / m) (i % m)

      digits : (i : ℕ) → i < m → f n i ≡ f ((n * m + i) / m) ((n * m + i) % m)
      digits i h =
          rw (mul-add-div_right {m = m} (omega arith) n i, div-eq_of_lt h, add-zero, mul-add-mod_self_right n m i, mod-eq_of_lt h) refl

  module _ (w : ℕ) where
    pub flat-wide : (ls : List (List A)) → ((i : ℕ) → i < length ls → length (get_or ls i []) ≡ w) → length (flatten ls) ≡ length ls * w
    unfolding flatten
    flat-wide [] wide = sym (zero-mul w)
    flat-wide (x ∷ xs) wide =
        let rest : length (flatten xs) ≡ length xs * w = flat-wide xs (λ i h. wide (suc i) (omega arith)) in
        rw (length-append x (flatten xs), suc-mul (length xs) w) (omega (arith, rest, wide 0 (omega arith)))

    -- list i, whatever stands after the lists
    pub flat-part : (ls : List (List A)) → ((i : ℕ) → i < length ls → length (get_or ls i []) ≡ w) → (rest : List A) (i : ℕ) → i < length ls
        → take w (drop (i * w) (flatten ls ++ rest)) ≡ get_or ls i []
    unfolding flatten
    flat-part [] wide rest i h = absurd (omega arith)
    flat-part (x ∷ xs) wide rest zero h = rw (zero-mul w, append_assoc) (take_at x (flatten xs ++ rest) w (wide 0 (omega arith)))
    flat-part (x ∷ xs) wide rest (suc i) h =
        let from : suc i * w ≡ length x + i * w = omega (arith, suc-mul i w, wide 0 (omega arith)) in
        rw (from, append_assoc, drop-append-add) (flat-part xs (λ m k. wide (suc m) (omega arith)) rest i (omega arith))

    pub flat-at : (z : A) (ls : List (List A)) → ((i : ℕ) → i < length ls → length (get_or ls i []) ≡ w)
        → (i j : ℕ) → i < length ls → j < w → get_or (flatten ls) (i * w + j) z ≡ get_or (get_or ls i []) j z
    flat-at z ls wide i j h l =
        let part : take w (drop (i * w) (flatten ls)) ≡ get_or ls i [] = rw (append-nil (flatten ls)) at (flat-part ls wide [] i h) in
        sym (get_or-drop (i * w) (flatten ls) j z) ∙ sym (get_or-take w (drop (i * w) (flatten ls)) j z l) ∙ ap (λ xs. get_or xs j z) part
