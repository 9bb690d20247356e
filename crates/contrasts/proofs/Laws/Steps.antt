-- The report's own step. "After k such steps it gives the same totals."
--
--   step_value     what the step writes as combination d of set q
--   step-cong      it reads only places of its column
--   rotated        the digit of a factor moves from the lowest place to the highest
--   all-steps      a step for each factor ends as the totals
use Rattle.std.specs.Prelude.{◌≡◌, List, [], ◌∷◌, ℕ, ◌+◌, ◌*◌, ◌/◌, ◌%◌, ◌<◌, ℤ, ◌*ℤ◌}
use Rattle.std.proofs.Common.{sym, ◌∙◌, ap, mul_comm, mul_assoc, mul-one, mul-pos, zero-mul, div-one, mod-lt, mod-eq_of_lt, add-zero, zero-add, arith, lit<}
use Rattle.std.proofs.Math.Nat.{mul-div_right, div-div-eq-div-mul, mod-one}
use Rattle.std.proofs.Math.Arith.{digits_div, digits_mod, digits_lt, mod-mul}
use Rattle.algebra.specs.Sum.{Σ}
use Rattle.algebra.specs.Laws.Sum.{Σ-cong, Σ-ext}
use Rattle.contrasts.specs.Factor.{Factor}
use Rattle.contrasts.specs.Totals.{Column, size, total}
use Rattle.contrasts.specs.Steps.{sets, step, steps}
use Rattle.contrasts.proofs.Laws.Digits.{level, digit_lt, total-nil, total-cons, total-cong, total-Σ}

sets-are : (F : Factor) (n : ℕ) → sets (F.levels * n) F ≡ n
sets-are F n = mul-div_right n F.some_level

pub step_value : (F : Factor) (n : ℕ) (x : Column) (d q : ℕ) → q < n
    → step (F.levels * n) F x (d * n + q) ≡ Σ F.levels (λ j. F.coef d j *ℤ x (q * F.levels + j))
unfolding step
step_value F n x d q h = rw (sets-are F n, digits_div d h, digits_mod d h)

pub step-cong : (F : Factor) (n : ℕ) (x y : Column) → 0 < n → ((r : ℕ) → r < F.levels * n → x r ≡ y r)
    → (i : ℕ) → step (F.levels * n) F x i ≡ step (F.levels * n) F y i
unfolding step
step-cong F n x y some h i =
    rw (sets-are F n)
    (Σ-cong F.levels (λ j k. ap (λ z. F.coef (i / n) j *ℤ z) (h (i % n * F.levels + j) (digit_lt (mod-lt i some) k))))

-- a factor's levels, from the runs to the effects already made
pub rotated : (l n m : ℕ) → l * n * m ≡ n * (m * l)
rotated l n m = omega arith

-- the step at a place whose digits, from the lowest, are one of n runs, one of m effects already made, and the row
step-made : (F : Factor) (n m : ℕ) (x : Column) (i r : ℕ) → 0 < m → r < n
    → step (F.levels * n * m) F x (i % (m * F.levels) * n + r)
    ≡ Σ F.levels (λ j. F.coef (i / m % F.levels) j *ℤ x ((i % m * n + r) * F.levels + j))
step-made F n m x i r some k =
    rw (mul_assoc F.levels n m, mul_comm m F.levels, mod-mul i F.some_level some, placed (i / m % F.levels) (i % m))
    (step_value F (n * m) x (i / m % F.levels) (i % m * n + r) (rw (mul_comm n m) (digits_lt (mod-lt i some) k)))
  where
    placed : (d a : ℕ) → (d * m + a) * n + r ≡ d * (n * m) + (a * n + r)
    placed d a = omega arith

-- the steps over a column of which each place holds, beside the runs' digits below, one of m effects already made
steps-from : (Fs : List Factor) (m : ℕ) (x : Column) (i : ℕ) → 0 < m → i < size Fs * m
    → steps (size Fs * m) Fs x i ≡ total Fs (λ r. x (i % m * size Fs + r)) (i / m)
unfolding steps size
steps-from [] m x i some h =
    let k : i < m = omega arith in
    sym (total-nil (λ r. x (i % m * 1 + r)) (i / m) ∙ rw (mod-eq_of_lt k, mul-one i, add-zero i))
steps-from (F ∷ Fs) m x i some h =
    ap (λ N. steps N Fs made i) (rotated l n m)
    ∙ steps-from Fs (m * l) made i (mul-pos some F.some_level) (rw (rotated l n m) at h)
    ∙ total-cong Fs (λ r. made (i % (m * l) * n + r)) (λ r. Σ l (λ j. c j *ℤ x ((a * n + r) * l + j))) (i / (m * l)) (λ r k. step-made F n m x i r some k)
    ∙ total-Σ Fs l c (λ j r. x ((a * n + r) * l + j)) (i / (m * l))
    ∙ Σ-ext l (λ j. ap (λ z. c j *ℤ z) (rw (div-div-eq-div-mul i m l)
    (total-cong Fs (λ r. x ((a * n + r) * l + j)) (level F j (λ r. x (a * (l * n) + r))) (i / (m * l)) (λ r _. ap x (place l n r j)))))
    ∙ sym (total-cons F Fs (λ r. x (a * (l * n) + r)) (i / m))
  where
    l : ℕ
    l = F.levels

    n : ℕ
    n = size Fs

    a : ℕ
    a = i % m

    c : ℕ → ℤ
    c j = F.coef (i / m % F.levels) j

    made : Column
    made = step (F.levels * size Fs * m) F x

    place : (l n r j : ℕ) → (a * n + r) * l + j ≡ a * (l * n) + (r * l + j)
    place l n r j = omega arith

pub all-steps : (Fs : List Factor) (x : Column) (i : ℕ) → i < size Fs → steps (size Fs) Fs x i ≡ total Fs x i
all-steps Fs x i h =
    ap (λ N. steps N Fs x i) (sym (mul-one (size Fs)))
    ∙ steps-from Fs 1 x i (lit< tt) (rw (mul-one (size Fs)) h)
    ∙ rw (mod-one i, div-one i, zero-mul (size Fs)) (total-cong Fs (λ r. x (0 + r)) x i (λ r _. ap x (zero-add r)))
