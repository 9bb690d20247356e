-- Readings back from totals.
--
--   recover          each reading, times the denominator, is the weighted sum of the totals by its coefficients
--   sums-total       the totals of such sums are the denominator times what was given
--   column-sums      the sums of the totals of a column are the denominator times the column
--   readings-back    so a column that has the totals is the readings back
--   Fitting          a column within a limit that has the totals
--   back_found       SOUND: where there is no refusal, the readings back are one
--   back-every       COMPLETE, AND THERE IS ONE AT MOST: where there is any such column, there is no refusal, and the readings back are that column
--
-- By the sums, as code judges them:
--
--   missed D M z q    q, the quotient of z and D, is not exact, or beyond M
--   any_missed D M zs  so of some number of a list
--   quotients D zs    the quotients of a list
--   quotients-back    those of the sums back are the readings back
--   judged            one of them is missed exactly where there are no readings
use Rattle.std.specs.Prelude.{◌≡◌, refl, Bool, false, ◌||◌, List, ℕ, ◌<◌, eqb, ltb, ℤ, pos, nat_abs, ◌*ℤ◌, length}
use Rattle.std.proofs.Math.Path.{sym, ap}
use Rattle.std.proofs.Common.{◌∙◌}
use Rattle.std.proofs.Math.Bool.{not}
use borrow.Author.Tests.{le-ltb, ltb-false, not-false}
use Rattle.std.proofs.Math.IntN.{*ℤ_comm}
use Rattle.std.specs.Int.Signed.{quot_z}
use Rattle.algebra.specs.Search.{some}
use Rattle.algebra.specs.Laws.Quotients.{quot-times, cancel}
use Rattle.algebra.specs.Laws.Ring.{ac*, *ℤ-assoc}
use Rattle.algebra.specs.Laws.Search.{some-false, none-at}
use Rattle.algebra.specs.Sum.{δ}
use Rattle.algebra.specs.Laws.Sum.{Σ-cong, Σ-ext, Σ-mul, Σ-mul-r, Σ-swap, Σ-one, Σ-at, cond-*ℤ}
use Rattle.algebra.specs.Tab.{tab}
use Rattle.algebra.specs.Laws.Tab.{length-tab, get_or-tab, is-tab}
use Rattle.algebra.specs.Tests.{eq_z}
use Rattle.algebra.specs.Laws.Tests.{neither, none, eq_z-true, eq-eq_z, both_ways}
use Rattle.contrasts.specs.Columns.{read, AllWithin, totals_of}
use Rattle.contrasts.specs.Factor.{Factor}
use Rattle.contrasts.specs.Recovery.{back_sum, readings_back, no_readings}
use Rattle.contrasts.specs.Totals.{Column, size, coef*, total, divisor*, denominator, weight*}
use Rattle.contrasts.proofs.Laws.Digits.{total-cong}
use Rattle.contrasts.proofs.Laws.Divisors.{shares, denominator-pos}
use Rattle.contrasts.proofs.Laws.Orthogonal.{orthogonal}
use Rattle.contrasts.proofs.Laws.Squares.{squares}
use Rattle.contrasts.proofs.Laws.Within.{within-upto}

-- ---- columns

-- the totals of a column that is 1 at run r and else 0
total-δ : (Fs : List Factor) (r e : ℕ) → r < size Fs → total Fs (δ r) e ≡ coef* Fs e r
unfolding total
total-δ Fs r e h = Σ-at (size Fs) r (λ j. coef* Fs e j) h

pub recover : (Fs : List Factor) (x : Column) (r : ℕ) → r < size Fs → back_sum Fs (total Fs x) r ≡ pos (denominator Fs) *ℤ x r
unfolding back_sum
recover Fs x r h =
    Σ-ext (size Fs) (λ e. rw (← total-δ Fs r e h))
    ∙ squares Fs x (δ r)
    ∙ ap (λ z. pos (denominator Fs) *ℤ z) (Σ-ext (size Fs) (λ j. *ℤ_comm (x j) (δ r j)) ∙ Σ-at (size Fs) r x h)

pub sums-total : (Fs : List Factor) (t : Column) (e : ℕ) → e < size Fs → total Fs (back_sum Fs t) e ≡ pos (denominator Fs) *ℤ t e
unfolding total back_sum
sums-total Fs t e h =
    Σ-ext n (λ r. sym (Σ-mul-r (coef* Fs e r) n (λ c. w c *ℤ (t c *ℤ coef* Fs c r))))
    ∙ Σ-swap n n (λ r c. (w c *ℤ (t c *ℤ coef* Fs c r)) *ℤ coef* Fs e r)
    ∙ Σ-cong n (λ c k.
    Σ-ext n (λ r. regroup (w c) (t c) (coef* Fs c r) (coef* Fs e r))
    ∙ Σ-mul-r (w c *ℤ t c) n (λ r. coef* Fs e r *ℤ coef* Fs c r)
    ∙ ap (λ z. z *ℤ (w c *ℤ t c)) (orthogonal Fs e c h k)
    ∙ cond-*ℤ (eqb e c) (pos (divisor* Fs e)) (w c *ℤ t c))
    ∙ Σ-one n e (λ c. pos (divisor* Fs e) *ℤ (w c *ℤ t c)) h
    ∙ sym (*ℤ-assoc (pos (divisor* Fs e)) (w e) (t e))
    ∙ ap (λ (m : ℕ). pos m *ℤ t e) (shares Fs e)
  where
    n : ℕ
    n = size Fs

    w : ℕ → ℤ
    w c = pos (weight* Fs c)

    regroup : (w t a b : ℤ) → (w *ℤ (t *ℤ a)) *ℤ b ≡ (b *ℤ a) *ℤ (w *ℤ t)
    regroup w t a b = simp ac*

total-times : (Fs : List Factor) (c : ℤ) (x : Column) (e : ℕ) → total Fs (λ r. c *ℤ x r) e ≡ c *ℤ total Fs x e
unfolding total
total-times Fs c x e = Σ-ext (size Fs) (λ r. *ℤ-assoc c (x r) (coef* Fs e r)) ∙ Σ-mul c (size Fs) (λ r. x r *ℤ coef* Fs e r)

-- where the denominator times a column are the sums, the column has the totals
exact-total : (Fs : List Factor) (t x : Column) → ((r : ℕ) → r < size Fs → pos (denominator Fs) *ℤ x r ≡ back_sum Fs t r)
    → (e : ℕ) → e < size Fs → total Fs x e ≡ t e
exact-total Fs t x exact e h =
    cancel (denominator Fs) (denominator-pos Fs) (total Fs x e) (t e)
    (sym (total-times Fs (pos (denominator Fs)) x e)
    ∙ total-cong Fs (λ r. pos (denominator Fs) *ℤ x r) (back_sum Fs t) e exact
    ∙ sums-total Fs t e h)

back-cong : (Fs : List Factor) (t u : Column) (r : ℕ) → ((e : ℕ) → e < size Fs → t e ≡ u e) → back_sum Fs t r ≡ back_sum Fs u r
unfolding back_sum
back-cong Fs t u r h = Σ-cong (size Fs) (λ e k. rw (h e k))

-- ---- lists

module _ (Fs : List Factor) (ts : List ℤ) where
  length_back : length (readings_back Fs ts) ≡ size Fs
  unfolding readings_back
  length_back = length-tab (size Fs) (λ r. quot_z (back_sum Fs (read ts) r) (pos (denominator Fs)))

  read_back : (r : ℕ) → r < size Fs → read (readings_back Fs ts) r ≡ quot_z (back_sum Fs (read ts) r) (pos (denominator Fs))
  unfolding readings_back
  read_back r h = get_or-tab (pos 0) (size Fs) (λ r. quot_z (back_sum Fs (read ts) r) (pos (denominator Fs))) r h

  module _ (ys : List ℤ) (have : totals_of Fs ys ≡ ts) where
    pub column-sums : (r : ℕ) → r < size Fs → back_sum Fs (read ts) r ≡ pos (denominator Fs) *ℤ read ys r
    unfolding totals_of
    column-sums r h =
        rw (← have) (back-cong Fs (read (tab (size Fs) (total Fs (read ys)))) (total Fs (read ys)) r
        (λ e k. get_or-tab (pos 0) (size Fs) (total Fs (read ys)) e k)
        ∙ recover Fs (read ys) r h)

    pub readings-back : length ys ≡ size Fs → readings_back Fs ts ≡ ys
    unfolding readings_back
    readings-back long =
        sym (is-tab (pos 0) ys (size Fs) (λ r. quot_z (back_sum Fs (read ts) r) (pos (denominator Fs))) long
        (λ r h. rw (column-sums r h) (sym (quot-times (denominator Fs) (denominator-pos Fs) (read ys r)))))

-- ---- with a limit

pub record Fitting (Fs : List Factor) (M : ℕ) (ts ys : List ℤ) : Type 0 where
  pub long : length ys ≡ size Fs
  pub small : AllWithin M ys
  pub same : totals_of Fs ys ≡ ts

module _ (Fs : List Factor) (M : ℕ) (ts : List ℤ) where
  abbrev refusing : ℕ → Bool
  refusing i = ltb M (nat_abs (read (readings_back Fs ts) i)) || not (eq_z (total Fs (read (readings_back Fs ts)) i) (read ts i))

  pub back_found : length ts ≡ size Fs → no_readings Fs M ts ≡ false → Fitting Fs M ts (readings_back Fs ts)
  unfolding no_readings totals_of
  back_found long e = record {
    long = length_back Fs ts;
    small = within-upto M (readings_back Fs ts) (λ i h. ltb-false M (nat_abs (read (readings_back Fs ts) i)) (at i (rw (length_back Fs ts) at h)).0);
    same =
        sym (is-tab (pos 0) ts (size Fs) (total Fs (read (readings_back Fs ts))) long
        (λ i h. sym (eq_z-true (total Fs (read (readings_back Fs ts)) i) (read ts i)
        (not-false (eq_z (total Fs (read (readings_back Fs ts)) i) (read ts i)) (at i h).1))));
  }
    where
      at : (i : ℕ) → i < size Fs → (ltb M (nat_abs (read (readings_back Fs ts) i)) ≡ false)
          × (not (eq_z (total Fs (read (readings_back Fs ts)) i) (read ts i)) ≡ false)
      at i h =
          neither (ltb M (nat_abs (read (readings_back Fs ts) i))) (not (eq_z (total Fs (read (readings_back Fs ts)) i) (read ts i)))
          (none-at (size Fs) refusing e i h)

  -- of a column that fits nothing is refused
  fits-itself : Fitting Fs M ts (readings_back Fs ts) → no_readings Fs M ts ≡ false
  unfolding no_readings totals_of
  fits-itself f =
      some-false (size Fs) refusing
      (λ i h. none (le-ltb M (nat_abs (read (readings_back Fs ts) i)) (f.small i))
      (ap not (eq-eq_z (total Fs (read (readings_back Fs ts)) i) (read ts i)
      (sym (get_or-tab (pos 0) (size Fs) (total Fs (read (readings_back Fs ts))) i h) ∙ ap (λ zs. read zs i) f.same))))

  pub back-every : (ys : List ℤ) → Fitting Fs M ts ys → (no_readings Fs M ts ≡ false) × (readings_back Fs ts ≡ ys)
  back-every ys f =
      let e : readings_back Fs ts ≡ ys = readings-back Fs ts ys f.same f.long in
      (fits-itself (rw e f), e)

-- ---- by the sums

abbrev pub missed : ℕ → ℕ → ℤ → ℤ → Bool
missed D M z q = not (eq_z (pos D *ℤ q) z) || ltb M (nat_abs q)

unfoldable pub any_missed : ℕ → ℕ → List ℤ → Bool
any_missed D M zs = some (length zs) (λ i. missed D M (read zs i) (quot_z (read zs i) (pos D)))

unfoldable pub quotients : ℕ → List ℤ → List ℤ
quotients D zs = tab (length zs) (λ i. quot_z (read zs i) (pos D))

module _ (Fs : List Factor) (ts zs : List ℤ) (so : zs ≡ tab (size Fs) (back_sum Fs (read ts))) where
  own-length : length zs ≡ size Fs
  own-length = rw so (length-tab (size Fs) (back_sum Fs (read ts)))

  own : (r : ℕ) → r < size Fs → read zs r ≡ back_sum Fs (read ts) r
  own r h = rw so (get_or-tab (pos 0) (size Fs) (back_sum Fs (read ts)) r h)

  pub quotients-back : quotients (denominator Fs) zs ≡ readings_back Fs ts
  unfolding quotients
  quotients-back =
      rw own-length (sym (is-tab (pos 0) (readings_back Fs ts) (size Fs) (λ i. quot_z (read zs i) (pos (denominator Fs))) (length_back Fs ts)
      (λ r h. read_back Fs ts r h ∙ rw (own r h) refl)))

  module _ (M : ℕ) (long : length ts ≡ size Fs) where
    exact : Fitting Fs M ts (readings_back Fs ts) → any_missed (denominator Fs) M zs ≡ false
    unfolding any_missed
    exact f =
        rw own-length
        (some-false (size Fs) (λ i. missed (denominator Fs) M (read zs i) (quot_z (read zs i) (pos (denominator Fs))))
        (λ r h. rw (own r h, ← (read_back Fs ts r h))
        (none (ap not (eq-eq_z _ _ (sym (column-sums Fs ts (readings_back Fs ts) f.same r h)))) (le-ltb M (nat_abs (read (readings_back Fs ts) r)) (f.small r)))))

    fitting : any_missed (denominator Fs) M zs ≡ false → Fitting Fs M ts (readings_back Fs ts)
    unfolding any_missed totals_of
    fitting e = record {
      long = length_back Fs ts;
      small = within-upto M (readings_back Fs ts)
          (λ r h. ltb-false M (nat_abs (read (readings_back Fs ts) r)) (at r (rw (length_back Fs ts) at h)).1);
      same =
          sym (is-tab (pos 0) ts (size Fs) (total Fs (read (readings_back Fs ts))) long
          (λ r h. sym (exact-total Fs (read ts) (read (readings_back Fs ts)) whole r h)));
    }
      where
        at : (r : ℕ) → r < size Fs → (not (eq_z (pos (denominator Fs) *ℤ read (readings_back Fs ts) r) (back_sum Fs (read ts) r)) ≡ false)
            × (ltb M (nat_abs (read (readings_back Fs ts) r)) ≡ false)
        at r h =
            neither _ _
            (rw (read_back Fs ts r h, ← (own r h))
            (none-at (size Fs) (λ i. missed (denominator Fs) M (read zs i) (quot_z (read zs i) (pos (denominator Fs)))) (rw own-length at e) r h))

        whole : (r : ℕ) → r < size Fs → pos (denominator Fs) *ℤ read (readings_back Fs ts) r ≡ back_sum Fs (read ts) r
        whole r h = eq_z-true _ _ (not-false (eq_z (pos (denominator Fs) *ℤ read (readings_back Fs ts) r) (back_sum Fs (read ts) r)) (at r h).0)

    pub judged : any_missed (denominator Fs) M zs ≡ no_readings Fs M ts
    judged =
        both_ways (any_missed (denominator Fs) M zs) (no_readings Fs M ts)
        (λ e. fits-itself Fs M ts (fitting e)) (λ e. exact (back_found Fs M ts long e))
