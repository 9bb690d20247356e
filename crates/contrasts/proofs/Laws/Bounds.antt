-- How large values grow.
--
--   growth Fs        the most by which passes that repeat no factor do
--   Within n M x     no value at the places below n exceeds M in size
--   sized            the sizes of products with such values
--   row-bound        a sum by a row
--   bound-passes     after any calls that repeat no factor
--   bound-each       and after each of them
--   bound-total      of a total
--   bound-step       after a step
--   bound-steps      after any steps of factors that are alike: times the reach a step
use Rattle.std.specs.Prelude.{◌≡◌, refl, List, [], ◌∷◌, ℕ, zero, suc, ◌+◌, ◌*◌, ◌/◌, ◌%◌, ◌^◌, ◌<◌, ◌≤◌, max, ℤ, nat_abs, ◌*ℤ◌, length, take, replicate}
use Rattle.std.proofs.Common.{sym, subst, mod-lt, mul_assoc, mul-le-mul_left, mul-le-mul_right, le_trans, pow-suc, one-mul, div-add-mod', div-lt_iff_lt-mul, arith}
use Rattle.std.proofs.Math.Nat.{pow-zero}
use Rattle.algebra.specs.Laws.Size.{nat_abs-*ℤ, nat_abs-Σ}
use Rattle.algebra.specs.Sum.{Σ}
use Rattle.algebra.specs.Naturals.{Σℕ}
use Rattle.algebra.specs.Laws.Naturals.{most-ge}
use Rattle.contrasts.specs.Factor.{Factor}
use Rattle.contrasts.specs.Laws.Bounds.{reach}
use Rattle.contrasts.specs.Totals.{Column, size, total}
use Rattle.contrasts.specs.Passes.{passes, count}
use Rattle.contrasts.specs.Steps.{step, steps}
use Rattle.contrasts.proofs.Laws.Digits.{level, rest_lt, digit_lt}
use Rattle.contrasts.proofs.Laws.Order.{rest, share, mixed, mixed-all, count-take, after}
use Rattle.contrasts.proofs.Laws.Steps.{step_value}

unfoldable pub growth : List Factor → ℕ
growth [] = 1
growth (F ∷ Fs) = max 1 (reach F) * growth Fs

-- ---- one row

abbrev pub Within : ℕ → ℕ → Column → Type 0
Within n M x = (r : ℕ) → r < n → nat_abs (x r) ≤ M

pub sized : (n M : ℕ) (c y : ℕ → ℤ) → Within n M y → Σℕ n (λ j. nat_abs (c j *ℤ y j)) ≤ Σℕ n (λ j. nat_abs (c j)) * M
unfolding Σℕ
sized zero M c y h = omega arith
sized (suc n) M c y h =
    rw (nat_abs-*ℤ (c n) (y n))
    (omega (arith, sized n M c y (λ j k. h j (omega arith)), mul-le-mul_left (nat_abs (c n)) (h n (omega arith))))

pub row-bound : (F : Factor) (d M : ℕ) (y : Column) → d < F.levels → Within F.levels M y
    → nat_abs (Σ F.levels (λ j. F.coef d j *ℤ y j)) ≤ reach F * M
unfolding reach
row-bound F d M y p h =
    le_trans (nat_abs-Σ F.levels (λ j. F.coef d j *ℤ y j))
    (le_trans (sized F.levels M (F.coef d) y h)
    (mul-le-mul_right M (most-ge F.levels (λ d. Σℕ F.levels (λ j. nat_abs (F.coef d j))) d p)))

-- ---- passes that repeat no factor

share-bound : (F : Factor) (n d M : ℕ) (y : Column) → d < F.levels → Within F.levels M y
    → nat_abs (share F n d y) ≤ max 1 (reach F) * M
unfolding share
share-bound F zero d M y p h = omega (arith, h d p, mul-le-mul_right {m = 1} {n = max 1 (reach F)} M (omega arith))
share-bound F (suc n) d M y p h = omega (arith, row-bound F d M y p h, mul-le-mul_right {m = reach F} {n = max 1 (reach F)} M (omega arith))

mixed-bound : (Fs : List Factor) (m : ℕ → ℕ) (x : Column) (M : ℕ) → Within (size Fs) M x → Within (size Fs) (growth Fs * M) (mixed Fs m x)
unfolding mixed growth size
mixed-bound [] m x M h i p = omega (arith, h i p)
mixed-bound (F ∷ Fs) m x M h i p =
    rw (mul_assoc (max 1 (reach F)) (growth Fs) M)
    (share-bound F (m 0) (i % F.levels) (growth Fs * M) (λ j. mixed Fs (rest m) (level F j x) (i / F.levels))
    (mod-lt i F.some_level)
    (λ j k. mixed-bound Fs (rest m) (level F j x) M (λ q g. h (q * F.levels + j) (digit_lt g k))
    (i / F.levels) (rest_lt F.some_level p)))

pub bound-passes : (Fs : List Factor) (calls : List ℕ) (x : Column) (M : ℕ) → ((k : ℕ) → k < length Fs → count k calls ≤ 1)
    → Within (size Fs) M x → Within (size Fs) (growth Fs * M) (passes Fs calls x)
bound-passes Fs calls x M once h i p = rw (after Fs calls x i once) (mixed-bound Fs (λ k. count k calls) x M h i p)

pub bound-each : (Fs : List Factor) (calls : List ℕ) (n : ℕ) (x : Column) (M : ℕ) → ((k : ℕ) → k < length Fs → count k calls ≤ 1)
    → Within (size Fs) M x → Within (size Fs) (growth Fs * M) (passes Fs (take n calls) x)
bound-each Fs calls n x M once h = bound-passes Fs (take n calls) x M (λ k l. omega (arith, once k l, count-take k n calls)) h

pub bound-total : (Fs : List Factor) (x : Column) (M : ℕ) → Within (size Fs) M x → Within (size Fs) (growth Fs * M) (total Fs x)
bound-total Fs x M h i p = rw (← (mixed-all Fs (λ k. 1) x i (λ k _. refl) p)) (mixed-bound Fs (λ k. 1) x M h i p)

-- ---- steps of a plan whose factors are alike

pub bound-step : (F : Factor) (n : ℕ) (x : Column) (M : ℕ) → 0 < n → Within (F.levels * n) M x
    → Within (F.levels * n) (reach F * M) (step (F.levels * n) F x)
bound-step F n x M some h i p =
    subst (λ r. nat_abs (step (F.levels * n) F x r) ≤ reach F * M) (div-add-mod' i n)
    (rw (step_value F n x (i / n) (i % n) (mod-lt i some))
    (row-bound F (i / n) M (λ j. x (i % n * F.levels + j)) ((div-lt_iff_lt-mul some).1 p)
    (λ j k. h (i % n * F.levels + j) (digit_lt (mod-lt i some) k))))

power : (g n M : ℕ) → g ^ n * (g * M) ≡ g ^ suc n * M
power g n M = rw (pow-suc g n) (sym (mul_assoc (g ^ n) g M))

pub bound-steps : (F : Factor) (n t : ℕ) (x : Column) (M : ℕ) → 0 < n → Within (F.levels * n) M x
    → Within (F.levels * n) (reach F ^ t * M) (steps (F.levels * n) (replicate t F) x)
unfolding steps
bound-steps F n zero x M some h = rw (pow-zero (reach F), one-mul M) h
bound-steps F n (suc t) x M some h =
    rw (← (power (reach F) t M)) (bound-steps F n t (step (F.levels * n) F x) (reach F * M) some (bound-step F n x M some h))
