-- Totals, passes and steps by the lowest digit: the laws from which all others go by induction over the list of factors. Only here and
-- in `Stretches` are the digits of a place taken apart.
--
--   level F j x           the runs at level j of the first factor, counted by their other digits
--   size-pos, rest_lt     there is a run; a run's other digits number one of the fewer runs
--   digit_lt              a digit and the other digits number a run
--   total-nil, total-cons, pass-zero, pass-suc, pass-beyond
--                         the total of no factor and of one more; the pass of the first factor, of a later one and of none
--   total-cong, pass-cong only places of the plan are read
--   total-Σ               a total of sums
use Rattle.std.specs.Prelude.{◌≡◌, refl, List, [], ◌∷◌, ℕ, zero, suc, ◌+◌, ◌*◌, ◌-◌, ◌/◌, ◌%◌, ◌<◌, ◌≤◌, ℤ, pos, ◌*ℤ◌, length}
use Rattle.std.proofs.Common.{sym, ◌∙◌, ap, mul_assoc, div-add-mod', mod-lt, div-mul-le_self, le_trans, mul-le-mul_right, div-one, mul_comm, mul-one, mul-pos, div-lt_iff_lt-mul, arith, lit<}
use Rattle.std.proofs.Math.Nat.{div-div-eq-div-mul, le_dest, add-sub_cancel_left, mod-le}
use Rattle.std.proofs.Math.Arith.{digits_div, digits_mod, digits_lt}
use Rattle.algebra.specs.Laws.Ring.{ac*, ℤ-*one, *ℤ-assoc}
use Rattle.algebra.specs.Sum.{Σ}
use Rattle.algebra.specs.Laws.Sum.{Σ-unit, Σ-cong, Σ-ext, Σ-mul, Σ-mul-r, Σ-swap, Σ-digits}
use Rattle.contrasts.specs.Factor.{Factor}
use Rattle.contrasts.specs.Totals.{Column, size, coef*, total}
use Rattle.contrasts.specs.Passes.{with_digit, pass_at, pass_from, pass}

abbrev pub level : Factor → ℕ → Column → Column
level F j x q = x (q * F.levels + j)

pub size-pos : (Fs : List Factor) → 0 < size Fs
unfolding size
size-pos [] = lit< tt
size-pos (F ∷ Fs) = mul-pos F.some_level (size-pos Fs)

pub rest_lt : {l n i : ℕ} → 0 < l → i < l * n → i / l < n
rest_lt {l} {n} {i} p h = (div-lt_iff_lt-mul p).1 (rw (mul_comm l n) at h)

pub digit_lt : {l n q j : ℕ} → q < n → j < l → q * l + j < l * n
digit_lt {l} {n} h k = rw (mul_comm l n) (digits_lt h k)

-- ---- totals

pub total-nil : (x : Column) (e : ℕ) → total [] x e ≡ x 0
unfolding total size coef*
total-nil x e = Σ-unit (λ r. x r *ℤ pos 1) ∙ ℤ-*one (x 0)

pub total-cons : (F : Factor) (Fs : List Factor) (x : Column) (e : ℕ)
    → total (F ∷ Fs) x e ≡ Σ F.levels (λ j. F.coef (e % F.levels) j *ℤ total Fs (level F j x) (e / F.levels))
unfolding total size coef*
total-cons F Fs x e =
    Σ-digits l (size Fs) (λ r. x r *ℤ (c (r % l) *ℤ k (r / l)))
    ∙ Σ-ext (size Fs) (λ q. Σ-cong l (λ d h. rw (digits_mod q h, digits_div q h)))
    ∙ Σ-swap (size Fs) l (λ q d. x (q * l + d) *ℤ (c d *ℤ k q))
    ∙ Σ-ext l (λ d. Σ-ext (size Fs) (λ q. simp ac*) ∙ Σ-mul (c d) (size Fs) (λ q. x (q * l + d) *ℤ k q))
  where
    l : ℕ
    l = F.levels

    c : ℕ → ℤ
    c j = F.coef (e % F.levels) j

    k : ℕ → ℤ
    k q = coef* Fs (e / F.levels) q

pub total-cong : (Fs : List Factor) (x y : Column) (e : ℕ) → ((r : ℕ) → r < size Fs → x r ≡ y r) → total Fs x e ≡ total Fs y e
unfolding total
total-cong Fs x y e h = Σ-cong (size Fs) (λ r k. rw (h r k))

pub total-Σ : (Fs : List Factor) (n : ℕ) (c : ℕ → ℤ) (y : ℕ → Column) (e : ℕ)
    → total Fs (λ r. Σ n (λ j. c j *ℤ y j r)) e ≡ Σ n (λ j. c j *ℤ total Fs (y j) e)
unfolding total
total-Σ Fs n c y e =
    Σ-ext (size Fs) (λ r. sym (Σ-mul-r (coef* Fs e r) n (λ j. c j *ℤ y j r)))
    ∙ Σ-swap (size Fs) n (λ r j. (c j *ℤ y j r) *ℤ coef* Fs e r)
    ∙ Σ-ext n (λ j. Σ-ext (size Fs) (λ r. *ℤ-assoc (c j) (y j r) (coef* Fs e r)) ∙ Σ-mul (c j) (size Fs) (λ r. y j r *ℤ coef* Fs e r))

-- ---- passes

swap-arith : (l s d j t r : ℕ) → (d * s + t) * l + r - d * (l * s) + j * (l * s) ≡ (d * s + t - d * s + j * s) * l + r
swap-arith l s d j t r = rw (add-sub_cancel_left (d * s) t) (omega arith)

with-digit : (l s l' j i : ℕ) → with_digit (l * s) l' j i ≡ with_digit s l' j (i / l) * l + i % l
with-digit l s l' j i =
    rw (← div-div-eq-div-mul i l s) (go (i / l) (i % l) (i / l / s % l') (div-add-mod' i l) (le_dest fits))
  where
    fits : i / l / s % l' * s ≤ i / l
    fits = le_trans (mul-le-mul_right s (mod-le (i / l / s) l')) (div-mul-le_self (i / l) s)

    go : (q r d : ℕ) → q * l + r ≡ i → (t : ℕ) × (d * s + t ≡ q) → i - d * (l * s) + j * (l * s) ≡ (q - d * s + j * s) * l + r
    go q r d e (t, h) = rw (← e, ← h) (swap-arith l s d j t r)

pass-at : (l s : ℕ) (F : Factor) (x : Column) (i : ℕ) → pass_at (l * s) F x i ≡ pass_at s F (λ q. x (q * l + i % l)) (i / l)
unfolding pass_at
pass-at l s F x i = Σ-ext F.levels (λ j. rw (with-digit l s F.levels j i, div-div-eq-div-mul i l s))

pass-from : (l s : ℕ) (Fs : List Factor) (f : ℕ) (x : Column) (i : ℕ)
    → 0 < l → pass_from (l * s) Fs f x i ≡ pass_from s Fs f (λ q. x (q * l + i % l)) (i / l)
unfolding pass_from
pass-from l s [] f x i p = rw (div-add-mod' i l)
pass-from l s (F ∷ Fs) zero x i p = pass-at l s F x i
pass-from l s (F ∷ Fs) (suc f) x i p = rw (mul_assoc l s F.levels) (pass-from l (s * F.levels) Fs f x i p)

pub pass-suc : (F : Factor) (Fs : List Factor) (f : ℕ) (x : Column) (i : ℕ)
    → pass (F ∷ Fs) (suc f) x i ≡ pass Fs f (level F (i % F.levels) x) (i / F.levels)
unfolding pass_from
pass-suc F Fs f x i = rw (mul_comm 1 F.levels) (pass-from F.levels 1 Fs f x i F.some_level)

low : (i l : ℕ) → i - i % l ≡ i / l * l
low i l = omega (arith, div-add-mod' i l)

pub pass-zero : (F : Factor) (Fs : List Factor) (x : Column) (i : ℕ)
    → pass (F ∷ Fs) zero x i ≡ Σ F.levels (λ j. F.coef (i % F.levels) j *ℤ x (i / F.levels * F.levels + j))
unfolding pass_from pass_at
pass-zero F Fs x i = Σ-ext F.levels (λ j. rw (div-one i, mul-one (i % F.levels), mul-one j, low i F.levels))

pub pass-beyond : (s : ℕ) (Fs : List Factor) (f : ℕ) (x : Column) → length Fs ≤ f → pass_from s Fs f x ≡ x
unfolding pass_from
pass-beyond s [] f x h = refl
pass-beyond s (F ∷ Fs) zero x h = absurd (omega arith)
pass-beyond s (F ∷ Fs) (suc f) x h = pass-beyond (s * F.levels) Fs f x (omega arith)

pub pass-cong : (Fs : List Factor) (f : ℕ) (x y : Column) → ((r : ℕ) → r < size Fs → x r ≡ y r)
    → (i : ℕ) → i < size Fs → pass Fs f x i ≡ pass Fs f y i
unfolding size pass_from
pass-cong [] f x y h i p = h i p
pass-cong (F ∷ Fs) zero x y h i p =
    pass-zero F Fs x i
    ∙ Σ-cong F.levels (λ j k. ap (λ z. F.coef (i % F.levels) j *ℤ z)
    (h (i / F.levels * F.levels + j) (digit_lt (rest_lt F.some_level p) k)))
    ∙ sym (pass-zero F Fs y i)
pass-cong (F ∷ Fs) (suc f) x y h i p =
    pass-suc F Fs f x i
    ∙ pass-cong Fs f (level F (i % F.levels) x) (level F (i % F.levels) y)
    (λ q g. h (q * F.levels + i % F.levels) (digit_lt g (mod-lt i F.some_level)))
    (i / F.levels) (rest_lt F.some_level p)
    ∙ sym (pass-suc F Fs f y i)
