-- The sum of squares, for two columns and for one.
--
--   squares              the products of matching totals, each by its weight, add up to the denominator times the sum of products of readings
--   numerators           "the numerators of all N effects add up to the denominator times the sum of squared readings"
--   within, within-one   so no sum of some of them, broken off anywhere, exceeds that, and no one of them
--   total-within         nor does a total in size
--   check-within         nor does the sum of the first totals, or of all
use Rattle.std.specs.Prelude.{◌≡◌, Bool, cond, List, [], ◌∷◌, ℕ, ◌+◌, ◌*◌, ◌<◌, ◌≤◌, eqb, ℤ, pos, nat_abs, ◌*ℤ◌}
use Rattle.std.proofs.Common.{sym, ◌∙◌, ap, mul_comm, mul-one, mul-le-mul_left, le_trans, arith}
use Rattle.algebra.specs.Laws.Ring.{ac*, *ℤ-assoc, *ℤ-left-comm, *ℤ-middle}
use Rattle.algebra.specs.Laws.Size.{square, nat_abs-Σ, size_below}
use Rattle.algebra.specs.Sum.{Σ}
use Rattle.algebra.specs.Laws.Sum.{Σ-unit, Σ-cong, Σ-ext, Σ-mul, Σ-mul-r, Σ-prod, Σ-swap, Σ-digits, Σ-split, Σ-one, cond-*ℤ}
use Rattle.algebra.specs.Naturals.{Σℕ}
use Rattle.algebra.specs.Laws.Naturals.{Σℕ-pos, Σℕ-le, Σℕ-shorter, Σℕ-some, Σℕ-term}
use Rattle.contrasts.specs.Factor.{Factor, weight}
use Rattle.contrasts.specs.Totals.{Column, size, total, denominator, weight*, numerator_of, numerator, squared}
use Rattle.contrasts.proofs.Laws.Digits.{level, total-nil, total-cons}
use Rattle.contrasts.proofs.Laws.Divisors.{weight-pos, weight-nil, weight-cons}

-- ---- the law of one factor

module _ (F : Factor) (u v : Column) where
  one-factor : Σ F.levels (λ d. pos (weight F d) *ℤ (Σ F.levels (λ i. F.coef d i *ℤ u i) *ℤ Σ F.levels (λ j. F.coef d j *ℤ v j)))
      ≡ pos F.common *ℤ Σ F.levels (λ i. u i *ℤ v i)
  one-factor =
      Σ-ext l (λ d. ap (λ z. w d *ℤ z) (Σ-prod l l (λ i. c d i *ℤ u i) (λ j. c d j *ℤ v j))
      ∙ sym (Σ-mul (w d) l (λ i. Σ l (λ j. (c d i *ℤ u i) *ℤ (c d j *ℤ v j))))
      ∙ Σ-ext l (λ i. sym (Σ-mul (w d) l (λ j. (c d i *ℤ u i) *ℤ (c d j *ℤ v j)))))
      ∙ Σ-swap l l (λ d i. Σ l (λ j. w d *ℤ ((c d i *ℤ u i) *ℤ (c d j *ℤ v j))))
      ∙ Σ-cong l (λ i h.
      Σ-swap l l (λ d j. w d *ℤ ((c d i *ℤ u i) *ℤ (c d j *ℤ v j)))
      ∙ Σ-cong l (λ j k.
      Σ-ext l (λ d. regroup (w d) (c d i) (u i) (c d j) (v j))
      ∙ Σ-mul-r (u i *ℤ v j) l (λ d. w d *ℤ (c d i *ℤ c d j))
      ∙ ap (λ z. z *ℤ (u i *ℤ v j)) (F.columns i j h k)
      ∙ cond-*ℤ (eqb i j) (pos F.common) (u i *ℤ v j))
      ∙ Σ-one l i (λ j. pos F.common *ℤ (u i *ℤ v j)) h)
      ∙ Σ-mul (pos F.common) l (λ i. u i *ℤ v i)
    where
      l : ℕ
      l = F.levels

      w : ℕ → ℤ
      w d = pos (weight F d)

      c : ℕ → ℕ → ℤ
      c = F.coef

      regroup : (w a u b v : ℤ) → w *ℤ ((a *ℤ u) *ℤ (b *ℤ v)) ≡ (w *ℤ (a *ℤ b)) *ℤ (u *ℤ v)
      regroup w a u b v = simp ac*

-- ---- any list of factors

pub squares : (Fs : List Factor) (x y : Column)
    → Σ (size Fs) (λ e. pos (weight* Fs e) *ℤ (total Fs x e *ℤ total Fs y e)) ≡ pos (denominator Fs) *ℤ Σ (size Fs) (λ r. x r *ℤ y r)
unfolding denominator size
squares [] x y =
    Σ-unit (λ e. pos (weight* [] e) *ℤ (total [] x e *ℤ total [] y e))
    ∙ rw (weight-nil 0, total-nil x 0, total-nil y 0, Σ-unit (λ r. x r *ℤ y r))
squares (F ∷ Fs) x y =
    Σ-ext (l * n) (λ e. rw (weight-cons F Fs e, total-cons F Fs x e, total-cons F Fs y e))
    ∙ Σ-split l n (λ d q. pos (weight F d * weight* Fs q) *ℤ (ux d q *ℤ uy d q))
    ∙ Σ-ext n (λ q.
    Σ-ext l (λ d. *ℤ-middle (pos (weight F d)) (pos (weight* Fs q)) (ux d q *ℤ uy d q))
    ∙ Σ-mul (pos (weight* Fs q)) l (λ d. pos (weight F d) *ℤ (ux d q *ℤ uy d q))
    ∙ ap (λ z. pos (weight* Fs q) *ℤ z) (one-factor F (λ i. tx i q) (λ j. ty j q) ∙ sym (Σ-mul (pos F.common) l (λ i. tx i q *ℤ ty i q)))
    ∙ sym (Σ-mul (pos (weight* Fs q)) l (λ i. pos F.common *ℤ (tx i q *ℤ ty i q))))
    ∙ Σ-swap n l (λ q i. pos (weight* Fs q) *ℤ (pos F.common *ℤ (tx i q *ℤ ty i q)))
    ∙ Σ-ext l (λ i.
    Σ-ext n (λ q. *ℤ-left-comm (pos (weight* Fs q)) (pos F.common) (tx i q *ℤ ty i q))
    ∙ Σ-mul (pos F.common) n (λ q. pos (weight* Fs q) *ℤ (tx i q *ℤ ty i q))
    ∙ ap (λ z. pos F.common *ℤ z) (squares Fs (level F i x) (level F i y))
    ∙ sym (*ℤ-assoc (pos F.common) (pos (denominator Fs)) (Σ n (λ q. x (q * l + i) *ℤ y (q * l + i)))))
    ∙ Σ-mul (pos (F.common * denominator Fs)) l (λ i. Σ n (λ q. x (q * l + i) *ℤ y (q * l + i)))
    ∙ ap (λ z. pos (F.common * denominator Fs) *ℤ z)
    (Σ-swap l n (λ i q. x (q * l + i) *ℤ y (q * l + i)) ∙ sym (Σ-digits l n (λ r. x r *ℤ y r)))
  where
    l : ℕ
    l = F.levels

    n : ℕ
    n = size Fs

    -- the totals over the other factors, at level i of this one, and their sums by row d
    tx : ℕ → ℕ → ℤ
    tx i q = total Fs (level F i x) q

    ty : ℕ → ℕ → ℤ
    ty i q = total Fs (level F i y) q

    ux : ℕ → ℕ → ℤ
    ux d q = Σ F.levels (λ i. F.coef d i *ℤ tx i q)

    uy : ℕ → ℕ → ℤ
    uy d q = Σ F.levels (λ i. F.coef d i *ℤ ty i q)

-- ---- one column, in whole numbers

numerator-is : (Fs : List Factor) (x : Column) (e : ℕ) → pos (numerator Fs x e) ≡ pos (weight* Fs e) *ℤ (total Fs x e *ℤ total Fs x e)
unfolding numerator_of
numerator-is Fs x e =
    rw (square (total Fs x e)) (ap pos (mul_comm (nat_abs (total Fs x e) * nat_abs (total Fs x e)) (weight* Fs e)))

pub numerators : (Fs : List Factor) (x : Column) → Σℕ (size Fs) (numerator Fs x) ≡ denominator Fs * squared Fs x
unfolding squared
numerators Fs x =
    ap nat_abs (Σℕ-pos (size Fs) (numerator Fs x)
    ∙ Σ-ext (size Fs) (numerator-is Fs x)
    ∙ squares Fs x x
    ∙ ap (λ z. pos (denominator Fs) *ℤ z)
    (Σ-ext (size Fs) (λ r. square (x r)) ∙ sym (Σℕ-pos (size Fs) (λ r. nat_abs (x r) * nat_abs (x r)))))

-- the first k numerators, of which p chooses some
pub within : (Fs : List Factor) (x : Column) (k : ℕ) (p : ℕ → Bool) → k ≤ size Fs
    → Σℕ k (λ e. cond (p e) (numerator Fs x e) 0) ≤ denominator Fs * squared Fs x
within Fs x k p h = rw (← (numerators Fs x)) (Σℕ-some k (size Fs) p (numerator Fs x) h)

pub within-one : (Fs : List Factor) (x : Column) (e : ℕ) → e < size Fs → numerator Fs x e ≤ denominator Fs * squared Fs x
within-one Fs x e h = rw (← (numerators Fs x)) (Σℕ-term (size Fs) (numerator Fs x) e h)

-- a total is at most its numerator in size, since its weight is at least 1
below : (Fs : List Factor) (x : Column) (e : ℕ) → nat_abs (total Fs x e) ≤ numerator Fs x e
unfolding numerator_of
below Fs x e =
    let q = nat_abs (total Fs x e) * nat_abs (total Fs x e) in
    omega (arith, size_below (nat_abs (total Fs x e)), mul-le-mul_left q (weight-pos Fs e), mul-one q)

pub total-within : (Fs : List Factor) (x : Column) (e : ℕ) → e < size Fs → nat_abs (total Fs x e) ≤ denominator Fs * squared Fs x
total-within Fs x e h = le_trans (below Fs x e) (within-one Fs x e h)

pub check-within : (Fs : List Factor) (x : Column) (n : ℕ) → n ≤ size Fs → nat_abs (Σ n (total Fs x)) ≤ denominator Fs * squared Fs x
check-within Fs x n h =
    rw (← (numerators Fs x))
    (le_trans (nat_abs-Σ n (total Fs x))
    (le_trans (Σℕ-le n (λ e. nat_abs (total Fs x e)) (numerator Fs x) (λ e _. below Fs x e)) (Σℕ-shorter n (size Fs) (numerator Fs x) h)))
