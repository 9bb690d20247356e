-- A normaliser for equations of the ring ℤ, by reflection.
--
--   Ex                expressions: var i, lit c, a ⊕ b, a ⊖ b, a ⊗ b
--   value ρ a         what the expression a comes to, where ρ i is the number of var i
--   Poly, norm a      the polynomial of a: a sorted list of terms with coefficients; eq_m, lt_m, insert, mul_m, tidy, add_t, add_p, mul_t and mul_p
--                     compute it: M of lists of variables, T of one term, P of polynomials
--   solve xs a b refl proves that a and b are equal, var i being the i-th of the numbers xs, where antt computes the same polynomial of both
--
-- The two expressions are written out, since a goal cannot be quoted. For mere reordering `simp ac+` and `simp ac*` are shorter.
use Rattle.std.specs.Prelude.{◌≡◌, Bool, true, false, cond, ◌&&◌, ℕ, T, eqb, ltb, get_or, ℤ, negsuc, ◌+ℤ◌, ◌*ℤ◌, ◌-ℤ◌}
use Rattle.std.proofs.Math.Path.{refl, sym, ap}
use Rattle.std.proofs.Common.{◌∙◌, eqb→eq}
use mathlib.Core.List.{List, [], ◌∷◌}
use Rattle.std.proofs.Math.IntN.{pos, neg_ℤ, +ℤ_idl, +ℤ_idr, +ℤ_assoc, zero-*ℤ, *ℤ-zero}
use Rattle.algebra.specs.Laws.Ring.{ac*, *ℤ-+ℤ, +ℤ-*ℤ, *ℤ-assoc, +ℤ-left-comm, *ℤ-left-comm, one-*ℤ, ℤ-*one, neg-*ℤ}
use Rattle.algebra.specs.Laws.Tests.{either, and_left, and_right, eqZ→eq}
use Rattle.algebra.specs.Tests.{eq_z}

infixl 6 ◌⊕◌ ◌⊖◌
infixl 7 ◌⊗◌
pub data Ex : Type 0 where
  var : ℕ → Ex
  lit : ℤ → Ex
  ◌⊕◌ ◌⊖◌ ◌⊗◌ : Ex → Ex → Ex

abbrev pub value : (ℕ → ℤ) → Ex → ℤ
value ρ (var i) = ρ i
value ρ (lit c) = c
value ρ (a ⊕ b) = value ρ a +ℤ value ρ b
value ρ (a ⊖ b) = value ρ a -ℤ value ρ b
value ρ (a ⊗ b) = value ρ a *ℤ value ρ b

-- a sorted list of terms: a number times the product of a sorted list of variables
pub data Poly : Type 0 where
  nil : Poly
  term : ℤ → List ℕ → Poly → Poly

abbrev pub eq_m : List ℕ → List ℕ → Bool
eq_m [] [] = true
eq_m [] (y ∷ ys) = false
eq_m (x ∷ xs) [] = false
eq_m (x ∷ xs) (y ∷ ys) = eqb x y && eq_m xs ys

abbrev pub lt_m : List ℕ → List ℕ → Bool
lt_m [] [] = false
lt_m [] (y ∷ ys) = true
lt_m (x ∷ xs) [] = false
lt_m (x ∷ xs) (y ∷ ys) = cond (eqb x y) (lt_m xs ys) (ltb x y)

abbrev pub insert : ℕ → List ℕ → List ℕ
insert x [] = x ∷ []
insert x (y ∷ ys) = cond (ltb y x) (y ∷ insert x ys) (x ∷ y ∷ ys)

abbrev pub mul_m : List ℕ → List ℕ → List ℕ
mul_m [] b = b
mul_m (x ∷ a) b = insert x (mul_m a b)

abbrev pub tidy : ℤ → List ℕ → Poly → Poly
tidy c m p = cond (eq_z c (pos 0)) p (term c m p)

abbrev pub add_t : ℤ → List ℕ → Poly → Poly
add_t c m nil = tidy c m nil
add_t c m (term d k p) = cond (eq_m m k) (tidy (c +ℤ d) k p) (cond (lt_m m k) (term c m (term d k p)) (term d k (add_t c m p)))

abbrev pub add_p : Poly → Poly → Poly
add_p nil q = q
add_p (term c m p) q = add_t c m (add_p p q)

abbrev pub mul_t : ℤ → List ℕ → Poly → Poly
mul_t c m nil = nil
mul_t c m (term d k p) = add_t (c *ℤ d) (mul_m m k) (mul_t c m p)

abbrev pub mul_p : Poly → Poly → Poly
mul_p nil q = nil
mul_p (term c m p) q = add_p (mul_t c m q) (mul_p p q)

abbrev pub norm : Ex → Poly
norm (var i) = term (pos 1) (i ∷ []) nil
norm (lit c) = tidy c [] nil
norm (a ⊕ b) = add_p (norm a) (norm b)
norm (a ⊖ b) = add_p (norm a) (mul_t (negsuc 0) [] (norm b))
norm (a ⊗ b) = mul_p (norm a) (norm b)

-- ---- the polynomial has the value of the expression

eqM→eq : (a b : List ℕ) → T (eq_m a b) → a ≡ b
eqM→eq [] [] t = refl
eqM→eq [] (y ∷ ys) t = absurd t
eqM→eq (x ∷ xs) [] t = absurd t
eqM→eq (x ∷ xs) (y ∷ ys) t = rw (eqb→eq x y (and_left (eqb x y) (eq_m xs ys) t), eqM→eq xs ys (and_right (eqb x y) (eq_m xs ys) t))

module _ (ρ : ℕ → ℤ) where
  ev_m : List ℕ → ℤ
  ev_m [] = pos 1
  ev_m (x ∷ xs) = ρ x *ℤ ev_m xs

  ev_p : Poly → ℤ
  ev_p nil = pos 0
  ev_p (term c m p) = c *ℤ ev_m m +ℤ ev_p p

  insert-is : (x : ℕ) (m : List ℕ) → ev_m (insert x m) ≡ ρ x *ℤ ev_m m
  unfolding ev_m
  insert-is x [] = refl
  insert-is x (y ∷ ys) = either (ltb y x) (y ∷ insert x ys) (x ∷ y ∷ ys) (λ z. ev_m z ≡ ρ x *ℤ (ρ y *ℤ ev_m ys))
      (λ _. rw (insert-is x ys) (*ℤ-left-comm (ρ y) (ρ x) (ev_m ys))) (λ _. refl)

  mul_m-is : (a b : List ℕ) → ev_m (mul_m a b) ≡ ev_m a *ℤ ev_m b
  unfolding ev_m
  mul_m-is [] b = sym (one-*ℤ (ev_m b))
  mul_m-is (x ∷ a) b = insert-is x (mul_m a b) ∙ rw (mul_m-is a b) (sym (*ℤ-assoc (ρ x) (ev_m a) (ev_m b)))

  tidy-is : (c : ℤ) (m : List ℕ) (p : Poly) → ev_p (tidy c m p) ≡ c *ℤ ev_m m +ℤ ev_p p
  unfolding ev_p
  tidy-is c m p = either (eq_z c (pos 0)) p (term c m p) (λ z. ev_p z ≡ c *ℤ ev_m m +ℤ ev_p p)
      (λ t. rw (eqZ→eq c (pos 0) t, zero-*ℤ (ev_m m)) (sym (+ℤ_idl (ev_p p)))) (λ _. refl)

  add_t-is : (c : ℤ) (m : List ℕ) (p : Poly) → ev_p (add_t c m p) ≡ c *ℤ ev_m m +ℤ ev_p p
  unfolding ev_p
  add_t-is c m nil = tidy-is c m nil
  add_t-is c m (term d k p) =
      either (eq_m m k) (tidy (c +ℤ d) k p) (cond (lt_m m k) (term c m (term d k p)) (term d k (add_t c m p)))
      (λ z. ev_p z ≡ c *ℤ ev_m m +ℤ (d *ℤ ev_m k +ℤ ev_p p))
      (λ t. tidy-is (c +ℤ d) k p ∙ rw (eqM→eq m k t, +ℤ-*ℤ c d (ev_m k)) (+ℤ_assoc (c *ℤ ev_m k) (d *ℤ ev_m k) (ev_p p)))
      (λ _. either (lt_m m k) (term c m (term d k p)) (term d k (add_t c m p)) (λ z. ev_p z ≡ c *ℤ ev_m m +ℤ (d *ℤ ev_m k +ℤ ev_p p))
      (λ _. refl)
      (λ _. rw (add_t-is c m p) (+ℤ-left-comm (d *ℤ ev_m k) (c *ℤ ev_m m) (ev_p p))))

  add_p-is : (p q : Poly) → ev_p (add_p p q) ≡ ev_p p +ℤ ev_p q
  unfolding ev_p
  add_p-is nil q = sym (+ℤ_idl (ev_p q))
  add_p-is (term c m p) q = add_t-is c m (add_p p q) ∙ rw (add_p-is p q) (sym (+ℤ_assoc (c *ℤ ev_m m) (ev_p p) (ev_p q)))

  mul_t-is : (c : ℤ) (m : List ℕ) (p : Poly) → ev_p (mul_t c m p) ≡ (c *ℤ ev_m m) *ℤ ev_p p
  unfolding ev_p
  mul_t-is c m nil = sym (*ℤ-zero (c *ℤ ev_m m))
  mul_t-is c m (term d k p) = add_t-is (c *ℤ d) (mul_m m k) (mul_t c m p) ∙ rw (mul_t-is c m p, mul_m-is m k) (four c d (ev_m m) (ev_m k) (ev_p p))
    where
      four : (c d m k p : ℤ) → (c *ℤ d) *ℤ (m *ℤ k) +ℤ (c *ℤ m) *ℤ p ≡ (c *ℤ m) *ℤ (d *ℤ k +ℤ p)
      four c d m k p = simp (*ℤ-+ℤ, ac*)

  mul_p-is : (p q : Poly) → ev_p (mul_p p q) ≡ ev_p p *ℤ ev_p q
  unfolding ev_p
  mul_p-is nil q = sym (zero-*ℤ (ev_p q))
  mul_p-is (term c m p) q = add_p-is (mul_t c m q) (mul_p p q) ∙ rw (mul_t-is c m q, mul_p-is p q) (sym (+ℤ-*ℤ (c *ℤ ev_m m) (ev_p p) (ev_p q)))

  norm-is : (a : Ex) → ev_p (norm a) ≡ value ρ a
  unfolding ev_p ev_m
  norm-is (var i) = +ℤ_idr (pos 1 *ℤ (ρ i *ℤ pos 1)) ∙ one-*ℤ (ρ i *ℤ pos 1) ∙ ℤ-*one (ρ i)
  norm-is (lit c) = tidy-is c [] nil ∙ +ℤ_idr (c *ℤ pos 1) ∙ ℤ-*one c
  norm-is (a ⊕ b) = add_p-is (norm a) (norm b) ∙ rw (norm-is a, norm-is b)
  norm-is (a ⊖ b) =
      add_p-is (norm a) (mul_t (negsuc 0) [] (norm b))
      ∙ rw (mul_t-is (negsuc 0) [] (norm b), norm-is a, norm-is b)
      (ap (λ z. value ρ a +ℤ z) (neg-*ℤ (pos 1) (value ρ b) ∙ ap neg_ℤ (one-*ℤ (value ρ b))))
  norm-is (a ⊗ b) = mul_p-is (norm a) (norm b) ∙ rw (norm-is a, norm-is b)

pub solve : (xs : List ℤ) (a b : Ex) → norm a ≡ norm b → value (λ i. get_or xs i (pos 0)) a ≡ value (λ i. get_or xs i (pos 0)) b
solve xs a b e = sym (norm-is ρ a) ∙ ap (ev_p ρ) e ∙ norm-is ρ b
  where
    ρ : ℕ → ℤ
    ρ i = get_or xs i (pos 0)
