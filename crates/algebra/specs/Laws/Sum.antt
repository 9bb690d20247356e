-- Laws of finite sums of integers.
--
--   Σ-cong, Σ-ext      equal terms, below n or everywhere, give equal sums
--   Σ-unit, Σ-zero     the sum of one term; of zeros
--   Σ-const            the sum of n terms that are the same
--   Σ-add              the sum of sums
--   Σ-mul, Σ-mul-r     a common factor, on the left or right
--   Σ-prod             the product of two sums
--   Σ-swap             two sums change places
--   Σ-plus             a sum taken in two parts
--   Σ-digits, Σ-split  the sum over l * n numbers, by their lowest digit to the base l and the rest
--   cond-*ℤ            a factor goes under a test
--   Σ-one, Σ-at        a sum with one term only
use Rattle.std.specs.Prelude.{◌≡◌, refl, Bool, true, false, cond, ℕ, zero, suc, ◌+◌, ◌*◌, ◌/◌, ◌%◌, ◌<◌, ◌≤◌, eqb, ℤ, pos, ◌+ℤ◌, ◌*ℤ◌}
use Rattle.std.proofs.Common.{sym, ap, ◌∙◌, add-zero, add-suc, mul-zero, mul-suc, mul_comm, lt-suc_self, add-one, arith, eq-eqb, ne_eqb}
use Rattle.std.proofs.Math.Nat.{le_step}
use Rattle.std.proofs.Math.Decide.{ℕ_discrete}
use Rattle.std.proofs.Math.Arith.{digits_div, digits_mod}
use Rattle.std.proofs.Math.IntN.{+ℤ_idl, +ℤ_idr, +ℤ_assoc, *ℤ-zero, zero-*ℤ, *ℤ_comm}
use Rattle.algebra.specs.Laws.Ring.{ac+, *ℤ-+ℤ, one-*ℤ}
use Rattle.algebra.specs.Sum.{Σ, δ}

pub Σ-cong : (n : ℕ) {f g : ℕ → ℤ} → ((i : ℕ) → i < n → f i ≡ g i) → Σ n f ≡ Σ n g
unfolding Σ
Σ-cong zero h = refl
Σ-cong (suc n) h = rw (h n (lt-suc_self n), Σ-cong n (λ i k. h i (le_step k)))

pub Σ-ext : (n : ℕ) {f g : ℕ → ℤ} → ((i : ℕ) → f i ≡ g i) → Σ n f ≡ Σ n g
Σ-ext n h = Σ-cong n (λ i _. h i)

pub Σ-unit : (f : ℕ → ℤ) → Σ 1 f ≡ f 0
unfolding Σ
Σ-unit f = +ℤ_idl (f 0)

pub Σ-zero : (n : ℕ) → Σ n (λ i. pos 0) ≡ pos 0
unfolding Σ
Σ-zero zero = refl
Σ-zero (suc n) = rw (Σ-zero n)

pub Σ-add : (n : ℕ) (f g : ℕ → ℤ) → Σ n (λ i. f i +ℤ g i) ≡ Σ n f +ℤ Σ n g
unfolding Σ
Σ-add zero f g = refl
Σ-add (suc n) f g = rw (Σ-add n f g) (simp ac+)

pub Σ-mul : (c : ℤ) (n : ℕ) (f : ℕ → ℤ) → Σ n (λ i. c *ℤ f i) ≡ c *ℤ Σ n f
unfolding Σ
Σ-mul c zero f = sym (*ℤ-zero c)
Σ-mul c (suc n) f = rw (Σ-mul c n f) (simp *ℤ-+ℤ)

pub Σ-mul-r : (c : ℤ) (n : ℕ) (f : ℕ → ℤ) → Σ n (λ i. f i *ℤ c) ≡ Σ n f *ℤ c
Σ-mul-r c n f = Σ-ext n (λ i. *ℤ_comm (f i) c) ∙ Σ-mul c n f ∙ *ℤ_comm c (Σ n f)

ones : (n : ℕ) → Σ n (λ i. pos 1) ≡ pos n
unfolding Σ
ones zero = refl
ones (suc n) = rw (ones n) (ap pos (add-one n))

pub Σ-const : (n : ℕ) (c : ℤ) → Σ n (λ i. c) ≡ pos n *ℤ c
Σ-const n c = Σ-ext n (λ i. sym (one-*ℤ c)) ∙ Σ-mul-r c n (λ i. pos 1) ∙ rw (ones n) refl

pub Σ-prod : (m n : ℕ) (f g : ℕ → ℤ) → Σ m f *ℤ Σ n g ≡ Σ m (λ i. Σ n (λ j. f i *ℤ g j))
Σ-prod m n f g = sym (Σ-mul-r (Σ n g) m f) ∙ Σ-ext m (λ i. sym (Σ-mul (f i) n g))

pub Σ-swap : (m n : ℕ) (f : ℕ → ℕ → ℤ) → Σ m (λ i. Σ n (λ j. f i j)) ≡ Σ n (λ j. Σ m (λ i. f i j))
unfolding Σ
Σ-swap zero n f = sym (Σ-zero n)
Σ-swap (suc m) n f = rw (Σ-swap m n f) (sym (Σ-add n (λ j. Σ m (λ i. f i j)) (λ j. f m j)))

pub Σ-plus : (m n : ℕ) (f : ℕ → ℤ) → Σ (m + n) f ≡ Σ m f +ℤ Σ n (λ i. f (m + i))
unfolding Σ
Σ-plus m zero f = rw add-zero (sym (+ℤ_idr (Σ m f)))
Σ-plus m (suc n) f = rw (add-suc, Σ-plus m n f) (+ℤ_assoc (Σ m f) (Σ n (λ i. f (m + i))) (f (m + n)))

pub Σ-digits : (l n : ℕ) (f : ℕ → ℤ) → Σ (l * n) f ≡ Σ n (λ q. Σ l (λ d. f (q * l + d)))
unfolding Σ
Σ-digits l zero f = rw mul-zero
Σ-digits l (suc n) f = rw (mul-suc, Σ-plus (l * n) l f, Σ-digits l n f, mul_comm l n)

pub Σ-split : (l n : ℕ) (g : ℕ → ℕ → ℤ) → Σ (l * n) (λ i. g (i % l) (i / l)) ≡ Σ n (λ q. Σ l (λ d. g d q))
Σ-split l n g =
    Σ-digits l n (λ i. g (i % l) (i / l)) ∙ Σ-ext n (λ q. Σ-cong l (λ d h. rw (digits_div q h, digits_mod q h)))

-- ---- sums with one term

pub cond-*ℤ : (b : Bool) (c g : ℤ) → cond b c (pos 0) *ℤ g ≡ cond b (c *ℤ g) (pos 0)
cond-*ℤ true c g = refl
cond-*ℤ false c g = zero-*ℤ g

Σ-none : (n i : ℕ) (f : ℕ → ℤ) → n ≤ i → Σ n (λ j. cond (eqb i j) (f j) (pos 0)) ≡ pos 0
Σ-none n i f h = Σ-cong n (λ j k. rw (ne_eqb i j (λ e. omega arith))) ∙ Σ-zero n

pub Σ-one : (n i : ℕ) (f : ℕ → ℤ) → i < n → Σ n (λ j. cond (eqb i j) (f j) (pos 0)) ≡ f i
unfolding Σ
Σ-one zero i f h = absurd (omega arith)
Σ-one (suc n) i f h = go (ℕ_discrete i n) (Σ-one n i f)
  where
    go : Dec (i ≡ n) → (i < n → Σ n (λ j. cond (eqb i j) (f j) (pos 0)) ≡ f i)
        → Σ n (λ j. cond (eqb i j) (f j) (pos 0)) +ℤ cond (eqb i n) (f n) (pos 0) ≡ f i
    go (yes e) r = rw (Σ-none n i f (omega arith), e, eq-eqb n n refl) (+ℤ_idl (f n))
    go (no e) r = rw (ne_eqb i n e, r (omega arith)) (+ℤ_idr (f i))

pub Σ-at : (n i : ℕ) (f : ℕ → ℤ) → i < n → Σ n (λ j. δ i j *ℤ f j) ≡ f i
Σ-at n i f h = Σ-ext n (λ j. cond-*ℤ (eqb i j) (pos 1) (f j)) ∙ Σ-one n i (λ j. pos 1 *ℤ f j) h ∙ one-*ℤ (f i)
