-- Laws of finite sums and largest values of natural numbers.
--
--   Σℕ-pos          as an integer `Σℕ n f` is the sum Σ, whose laws it has
--   Σℕ-cong         equal terms give equal sums
--   Σℕ-mul          a common factor
--   Σℕ-first        the first term, and the rest
--   Σℕ-none         terms that are all 0
--   Σℕ-add          a sum of sums
--   Σℕ-plus         the sum over m + n numbers, by the first m and the rest
--   Σℕ-upto         terms that are 0 from m on may be left out
--   Σℕ-swap         the order of two sums
--   Σℕ-parity       terms that are odd or even alike give sums that are
--   Σℕ-ones         n times 1
--   Σℕ-split        the sum over l * n numbers, by their lowest digit to the base l and the rest
--   Σℕ-one          a sum with one term only
--   Σℕ-by           a sum sorted by a key: the parts of all keys add up to the whole
--   Σℕ-le           smaller terms give a smaller sum
--   Σℕ-shorter      a sum broken off anywhere is at most the whole sum
--   Σℕ-each         terms of at most m add up to at most n * m
--   Σℕ-some         a selection of terms, broken off anywhere, is at most the whole sum
--   Σℕ-term         and so is one term
--   most-ge         `most n f` is at least each of f 0, .., f (n - 1)
use Rattle.std.specs.Prelude.{◌≡◌, refl, Bool, true, false, cond, ℕ, zero, suc, ◌+◌, ◌*◌, ◌-◌, ◌/◌, ◌%◌, ◌<◌, ◌≤◌, max, eqb, pos, nat_abs, ◌+ℤ◌, ◌*ℤ◌}
use Rattle.std.proofs.Common.{sym, ◌∙◌, ap, ap₂, add-zero, le_refl, suc-mul, le_trans, add-one, arith}
use Rattle.std.proofs.Math.Decide.{ℕ_discrete}
use Rattle.std.proofs.Math.Arith.{le-zero}
use Rattle.algebra.specs.Sum.{Σ}
use Rattle.algebra.specs.Laws.Sum.{Σ-cong, Σ-ext, Σ-mul, Σ-swap, Σ-plus, Σ-split, Σ-one}
use Rattle.algebra.specs.Naturals.{Σℕ, most}

pub Σℕ-pos : (n : ℕ) (f : ℕ → ℕ) → pos (Σℕ n f) ≡ Σ n (λ i. pos (f i))
unfolding Σℕ Σ
Σℕ-pos zero f = refl
Σℕ-pos (suc n) f = ap (λ z. z +ℤ pos (f n)) (Σℕ-pos n f)

-- ---- laws that are those of Σ

same : {a b : ℕ} → pos a ≡ pos b → a ≡ b
same e = ap nat_abs e

pub Σℕ-cong : (n : ℕ) {f g : ℕ → ℕ} → ((i : ℕ) → i < n → f i ≡ g i) → Σℕ n f ≡ Σℕ n g
Σℕ-cong n {f} {g} h = same (Σℕ-pos n f ∙ Σ-cong n (λ i k. ap pos (h i k)) ∙ sym (Σℕ-pos n g))

pub Σℕ-mul : (c n : ℕ) (f : ℕ → ℕ) → Σℕ n (λ i. c * f i) ≡ c * Σℕ n f
Σℕ-mul c n f =
    same (Σℕ-pos n (λ i. c * f i) ∙ Σ-mul (pos c) n (λ i. pos (f i)) ∙ ap (λ z. pos c *ℤ z) (sym (Σℕ-pos n f)))

pub Σℕ-split : (l n : ℕ) (g : ℕ → ℕ → ℕ) → Σℕ (l * n) (λ i. g (i % l) (i / l)) ≡ Σℕ n (λ q. Σℕ l (λ d. g d q))
Σℕ-split l n g =
    same (Σℕ-pos (l * n) (λ i. g (i % l) (i / l))
    ∙ Σ-split l n (λ d q. pos (g d q))
    ∙ Σ-ext n (λ q. sym (Σℕ-pos l (λ d. g d q)))
    ∙ sym (Σℕ-pos n (λ q. Σℕ l (λ d. g d q))))

pub Σℕ-first : (n : ℕ) (f : ℕ → ℕ) → Σℕ (suc n) f ≡ f 0 + Σℕ n (λ i. f (suc i))
unfolding Σℕ
Σℕ-first zero f = omega arith
Σℕ-first (suc n) f = rw (Σℕ-first n f) (omega arith)

pub Σℕ-none : (n : ℕ) (f : ℕ → ℕ) → ((i : ℕ) → i < n → f i ≡ 0) → Σℕ n f ≡ 0
unfolding Σℕ
Σℕ-none zero f h = refl
Σℕ-none (suc n) f h = omega (arith, Σℕ-none n f (λ i l. h i (omega arith)), h n (omega arith))

pub Σℕ-add : (n : ℕ) (f g : ℕ → ℕ) → Σℕ n (λ i. f i + g i) ≡ Σℕ n f + Σℕ n g
unfolding Σℕ
Σℕ-add zero f g = refl
Σℕ-add (suc n) f g = rw (Σℕ-add n f g) (omega arith)

pub Σℕ-plus : (m n : ℕ) (f : ℕ → ℕ) → Σℕ (m + n) f ≡ Σℕ m f + Σℕ n (λ i. f (m + i))
Σℕ-plus m n f =
    same (Σℕ-pos (m + n) f ∙ Σ-plus m n (λ i. pos (f i)) ∙ sym (ap₂ ◌+ℤ◌ (Σℕ-pos m f) (Σℕ-pos n (λ i. f (m + i)))))

pub Σℕ-upto : (m n : ℕ) (f : ℕ → ℕ) → m ≤ n → ((i : ℕ) → m ≤ i → f i ≡ 0) → Σℕ n f ≡ Σℕ m f
Σℕ-upto m n f h z =
    let e : n ≡ m + (n - m) = omega arith in
    ap (λ (l : ℕ). Σℕ l f) e ∙ Σℕ-plus m (n - m) f ∙ rw (Σℕ-none (n - m) (λ i. f (m + i)) (λ i l. z (m + i) (omega arith))) (add-zero (Σℕ m f))

pub Σℕ-swap : (m n : ℕ) (f : ℕ → ℕ → ℕ) → Σℕ m (λ i. Σℕ n (λ j. f i j)) ≡ Σℕ n (λ j. Σℕ m (λ i. f i j))
unfolding Σℕ
Σℕ-swap zero n f = sym (Σℕ-none n (λ j. 0) (λ j l. refl))
Σℕ-swap (suc m) n f = rw (Σℕ-swap m n f) (sym (Σℕ-add n (λ j. Σℕ m (λ i. f i j)) (λ j. f m j)))

-- sums of terms that are odd or even alike
pub Σℕ-parity : (n : ℕ) (f g : ℕ → ℕ) → ((i : ℕ) → i < n → f i % 2 ≡ g i % 2) → Σℕ n f % 2 ≡ Σℕ n g % 2
unfolding Σℕ
Σℕ-parity zero f g h = refl
Σℕ-parity (suc n) f g h = omega (arith, Σℕ-parity n f g (λ i l. h i (omega arith)), h n (omega arith))

pub Σℕ-ones : (n : ℕ) → Σℕ n (λ i. 1) ≡ n
unfolding Σℕ
Σℕ-ones zero = refl
Σℕ-ones (suc n) = rw (Σℕ-ones n) (add-one n)

pos-cond : (b : Bool) (n : ℕ) → pos (cond b n 0) ≡ cond b (pos n) (pos 0)
pos-cond true n = refl
pos-cond false n = refl

pub Σℕ-one : (n i : ℕ) (f : ℕ → ℕ) → i < n → Σℕ n (λ j. cond (eqb i j) (f j) 0) ≡ f i
Σℕ-one n i f h =
    same (Σℕ-pos n (λ j. cond (eqb i j) (f j) 0) ∙ Σ-ext n (λ j. pos-cond (eqb i j) (f j)) ∙ Σ-one n i (λ j. pos (f j)) h)

pub Σℕ-by : (n r : ℕ) (key f : ℕ → ℕ) → ((i : ℕ) → i < n → key i < r)
    → Σℕ r (λ w. Σℕ n (λ i. cond (eqb (key i) w) (f i) 0)) ≡ Σℕ n f
Σℕ-by n r key f h =
    same (Σℕ-pos r (λ w. Σℕ n (λ i. cond (eqb (key i) w) (f i) 0))
    ∙ Σ-ext r (λ w. Σℕ-pos n (λ i. cond (eqb (key i) w) (f i) 0) ∙ Σ-ext n (λ i. pos-cond (eqb (key i) w) (f i)))
    ∙ Σ-swap r n (λ w i. cond (eqb (key i) w) (pos (f i)) (pos 0))
    ∙ Σ-cong n (λ i k. Σ-one r (key i) (λ w. pos (f i)) (h i k))
    ∙ sym (Σℕ-pos n f))

-- ---- order

pub Σℕ-le : (n : ℕ) (f g : ℕ → ℕ) → ((i : ℕ) → i < n → f i ≤ g i) → Σℕ n f ≤ Σℕ n g
unfolding Σℕ
Σℕ-le zero f g h = le_refl 0
Σℕ-le (suc n) f g h = omega (arith, h n (omega arith), Σℕ-le n f g (λ i k. h i (omega arith)))

pub Σℕ-each : (n m : ℕ) (f : ℕ → ℕ) → ((i : ℕ) → i < n → f i ≤ m) → Σℕ n f ≤ n * m
unfolding Σℕ
Σℕ-each zero m f h = omega arith
Σℕ-each (suc n) m f h = rw (suc-mul n m) (omega (arith, h n (omega arith), Σℕ-each n m f (λ i k. h i (omega arith))))

pub Σℕ-shorter : (k n : ℕ) (f : ℕ → ℕ) → k ≤ n → Σℕ k f ≤ Σℕ n f
unfolding Σℕ
Σℕ-shorter k zero f h = rw (le-zero h) (le_refl 0)
Σℕ-shorter k (suc n) f h = go (ℕ_discrete k (suc n)) (Σℕ-shorter k n f)
  where
    go : Dec (k ≡ suc n) → (k ≤ n → Σℕ k f ≤ Σℕ n f) → Σℕ k f ≤ Σℕ n f + f n
    go (yes e) r = rw e (le_refl (Σℕ n f + f n))
    go (no e) r = omega (arith, r (omega arith))

chosen : (b : Bool) (n : ℕ) → cond b n 0 ≤ n
chosen true n = le_refl n
chosen false n = omega arith

pub Σℕ-some : (k n : ℕ) (p : ℕ → Bool) (f : ℕ → ℕ) → k ≤ n → Σℕ k (λ i. cond (p i) (f i) 0) ≤ Σℕ n f
Σℕ-some k n p f h = le_trans (Σℕ-le k (λ i. cond (p i) (f i) 0) f (λ i _. chosen (p i) (f i))) (Σℕ-shorter k n f h)

pub Σℕ-term : (n : ℕ) (f : ℕ → ℕ) (i : ℕ) → i < n → f i ≤ Σℕ n f
unfolding Σℕ
Σℕ-term n f i h = le_trans (omega arith) (Σℕ-shorter (suc i) n f h)

pub most-ge : (n : ℕ) (f : ℕ → ℕ) (i : ℕ) → i < n → f i ≤ most n f
unfolding most
most-ge zero f i h = absurd (omega arith)
most-ge (suc n) f i h = go (ℕ_discrete i n) (most-ge n f i)
  where
    go : Dec (i ≡ n) → (i < n → f i ≤ most n f) → f i ≤ max (most n f) (f n)
    go (yes e) r = rw e (omega arith)
    go (no e) r = omega (arith, r (omega arith))
