-- Laws on terms sorted by a key, and the loop that adds the terms to their places one after the other.
--
--   sum-cong, sorted-cong  keys and terms that agree
--   sum-own, sum-other     what the next term brings to its own place, and that it brings nothing to another
--   sum_low                no term has this key yet
--   sorted_none            no term is added yet
--   sorted_more            the next term is added to its place
--   sorted-at              what a place holds
--   sum-least              what a place holds is at most the sum of all terms
--   sum-next               and so it is with the next term added
--   by_kind                sums of sums: the keys of one kind together have the terms of that kind
use Rattle.std.specs.Prelude.{◌≡◌, Bool, true, false, cond, List, ℕ, suc, ◌+◌, ◌<◌, ◌≤◌, eqb, length, get_or, set}
use Rattle.std.proofs.Math.Path.{refl}
use Rattle.std.proofs.Common.{sym, ◌∙◌, ap, add-zero, add-one, eq-eqb, ne_eqb}
use Rattle.algebra.specs.Naturals.{Σℕ}
use Rattle.algebra.specs.Laws.Naturals.{Σℕ-cong, Σℕ-none, Σℕ-swap, Σℕ-some, Σℕ-one}
use Rattle.algebra.specs.Laws.Tab.{get_or-tab, is-tab, tab-cong, tab-set}
use Rattle.algebra.specs.Sorted.{sum_at, sorted}

module _ {n : ℕ} {key key' f f' : ℕ → ℕ} (keys : (i : ℕ) → i < n → key i ≡ key' i) (terms : (i : ℕ) → i < n → f i ≡ f' i) where
  pub sum-cong : (w : ℕ) → sum_at key f n w ≡ sum_at key' f' n w
  unfolding sum_at
  sum-cong w = Σℕ-cong n (λ i h. rw (keys i h, terms i h) refl)

  pub sorted-cong : (r : ℕ) → sorted r key f n ≡ sorted r key' f' n
  sorted-cong r = tab-cong 0 r (sum_at key f n) (sum_at key' f' n) (λ w _. sum-cong w)

module _ (key f : ℕ → ℕ) where
  pub sum-own : (n : ℕ) → sum_at key f n (key n) + f n ≡ sum_at key f (suc n) (key n)
  unfolding sum_at Σℕ
  sum-own n = rw (eq-eqb (key n) (key n) refl) refl

  pub sum-other : (n w : ℕ) → (w ≡ key n → ⊥) → sum_at key f n w ≡ sum_at key f (suc n) w
  unfolding sum_at Σℕ
  sum-other n w h = rw (ne_eqb (key n) w (λ e. h (sym e))) (sym (add-zero (sum_at key f n w)))

  pub sum_low : (n w : ℕ) → ((i : ℕ) → i < n → key i ≡ w → ⊥) → sum_at key f n w ≡ 0
  unfolding sum_at
  sum_low n w h = Σℕ-none n _ (λ i k. rw (ne_eqb (key i) w (h i k)) refl)

module _ (r : ℕ) (key f : ℕ → ℕ) where
  pub sorted_none : (xs : List ℕ) → length xs ≡ r → ((w : ℕ) → w < r → get_or xs w 0 ≡ 0) → xs ≡ sorted r key f 0
  unfolding sum_at Σℕ
  sorted_none xs e h = is-tab 0 xs r (sum_at key f 0) e h

  pub sorted-at : {xs : List ℕ} (n : ℕ) → xs ≡ sorted r key f n → (w : ℕ) → w < r → get_or xs w 0 ≡ sum_at key f n w
  sorted-at n e w h = rw e (get_or-tab 0 r (sum_at key f n) w h)

  pub sorted_more : (n : ℕ) {xs : List ℕ} → xs ≡ sorted r key f n → key n < r
      → set xs (key n) (get_or xs (key n) 0 + f n) ≡ sorted r key f (n + 1)
  sorted_more n {xs} e h =
      rw (add-one n)
      (tab-set 0 r (key n) (sum_at key f n) (sum_at key f (suc n)) _ xs e (ap (λ z. z + f n) (sorted-at n e (key n) h) ∙ sum-own key f n)
      (λ w k d. sum-other key f n w d))

pub sum-least : (key f : ℕ → ℕ) (n m w : ℕ) → n ≤ m → sum_at key f n w ≤ Σℕ m f
unfolding sum_at
sum-least key f n m w h = Σℕ-some n m (λ i. eqb (key i) w) f h

pub sum-next : (key f : ℕ → ℕ) (n m : ℕ) → n < m → sum_at key f n (key n) + f n ≤ Σℕ m f
sum-next key f n m h = rw (sum-own key f n) (sum-least key f (suc n) m (key n) h)

-- ---- sums of sums

cond-Σℕ : (b : Bool) (n : ℕ) (g : ℕ → ℕ) → cond b (Σℕ n g) 0 ≡ Σℕ n (λ i. cond b (g i) 0)
cond-Σℕ true n g = refl
cond-Σℕ false n g = sym (Σℕ-none n (λ i. 0) (λ i h. refl))

swapped : (a b : Bool) (m : ℕ) → cond a (cond b m 0) 0 ≡ cond b (cond a m 0) 0
swapped true b m = refl
swapped false true m = refl
swapped false false m = refl

-- the keys below r that are of one kind
pub by_kind : (r : ℕ) (key kind f : ℕ → ℕ) (n c : ℕ) → ((i : ℕ) → i < n → key i < r)
    → Σℕ r (λ w. cond (eqb (kind w) c) (sum_at key f n w) 0) ≡ sum_at (λ i. kind (key i)) f n c
unfolding sum_at
by_kind r key kind f n c h =
    Σℕ-cong r (λ w _. cond-Σℕ (eqb (kind w) c) n (λ i. cond (eqb (key i) w) (f i) 0)
    ∙ Σℕ-cong n (λ i _. swapped (eqb (kind w) c) (eqb (key i) w) (f i)))
    ∙ Σℕ-swap r n (λ w i. cond (eqb (key i) w) (cond (eqb (kind w) c) (f i) 0) 0)
    ∙ Σℕ-cong n (λ i k. Σℕ-one r (key i) (λ w. cond (eqb (kind w) c) (f i) 0) (h i k))
