-- Three blocks: each has a third of the runs, and the block amount is part of the row of the word's letters.
--
--   digits-none, block_none    without a word every run is in block 0
--   digits-turn                a loop that adds up digit times level from the lowest digit on: its next turn
--   digits-bound               how large that sum is
--   higher, lowest             what is left of a number without its lowest digits, and without none
--   digits_are                 it is the sum, over the positions, of digit times level
--   block-set                  the blocks of three runs that differ in the level of A alone
--   block-lt                   there are three blocks
--   by-block, all_blocks       sums over the runs, block by block
--   block-sum-within           how large a block sum is
--   apart Fs w x               the squares of the differences of the block sums, added up
--   thrice                     three times the squares of the block sums: those of their differences, and that of their sum
--   vanishes                   a function of the block that adds up to 0 has no total outside the row of the word's letters
--   untouched                  what blocks differ by changes no total outside that row, but the mean's
--   evenly                     sums over the runs of a function of the block
--   block-runs                 a block has a third of the runs
--   products, squares-of-y     the column y, three times the sum of the run's block less the sum of all
--   remainder                  N N times what the amount leaves of the row is a sum of squares
--   inside-row                 so the weight of effect 0 times `apart` is at most the row's numerator
--   no-remainder, not-cut      no division in the block amount leaves a remainder, and nothing is cut off at 0
--   amount-is                  the block amount is that product, however often runs are made
--   amount-whole               the amount in whole numbers, with the number of all readings for that of each block's
--   never-negative             "The remainder is never negative"
use Rattle.std.specs.Prelude.{◌≡◌, Bool, true, false, eqb, negsuc, ◌*ℤ◌, ◌-ℤ◌, replicate}
use Rattle.std.proofs.Math.Path.{refl, sym, ap, ap₂}
use Rattle.std.proofs.Common.{◌∙◌, le_trans, zero-mul, mod-lt, add_assoc, mul-pos, mul_left_comm, mul-le-mul, mul_comm, div-one, pow-suc, arith, eq-eqb, ne_eqb, lit<}
use Rattle.std.proofs.Math.Bool.{cond}
use mathlib.Core.List.{List, [], ◌∷◌}
use Prim.Native.Nat.{ℕ, zero, suc, ◌+◌, ◌*◌, ◌-◌, ◌/◌, ◌%◌, ◌^◌, ◌<◌, ◌≤◌}
use Rattle.std.proofs.Math.Nat.{zero-mod, zero-div, mul_assoc, div-div-eq-div-mul, div-eq_of_eq-mul_right, pow-zero, le_of_mul-le-mul_left}
use Rattle.std.proofs.Math.Decide.{ℕ_discrete}
use Rattle.std.proofs.Math.Arith.{digits_div, digits_mod}
use Rattle.std.proofs.Math.IntN.{ℤ, pos, nat_abs, ◌+ℤ◌, *ℤ-zero, zero-*ℤ, +ℤ_idl, +ℤ_idr}
use Rattle.algebra.specs.Naturals.{Σℕ}
use Rattle.algebra.specs.Sorted.{sum_at}
use Rattle.algebra.specs.Sum.{Σ, δ}
use Rattle.algebra.specs.Tests.{every, eq_z}
use Rattle.algebra.specs.Laws.Naturals.{Σℕ-pos, Σℕ-cong, Σℕ-first, Σℕ-each}
use Rattle.algebra.specs.Laws.Ring.{ℤ-*one}
use Rattle.algebra.specs.Laws.Size.{sq, square, squares-of, nat_abs-*ℤ, nat_abs-Σ}
use Rattle.algebra.specs.Laws.Solve.{Ex, solve, var, lit, ◌⊕◌, ◌⊖◌, ◌⊗◌}
use Rattle.algebra.specs.Laws.Sum.{Σ-ext, Σ-cong, Σ-zero, Σ-const, Σ-add, Σ-mul, Σ-mul-r, Σ-swap, Σ-one, cond-*ℤ}
use Rattle.algebra.specs.Laws.Tests.{every-at, eqZ→eq}
use Rattle.contrasts.specs.Factor.{Factor}
use Rattle.contrasts.proofs.Factors.{three}
use Rattle.contrasts.specs.Totals.{Column, size, coef*, total, denominator, weight*, numerator_of, numerator}
use Rattle.contrasts.specs.Rows.{row_of, row_numerator}
use Rattle.contrasts.specs.Blocks.{digit_sum, block_of, block_runs, block_sum, block_numerator}
use Rattle.contrasts.proofs.Laws.Bounds.{Within}
use Rattle.contrasts.proofs.Laws.Degrees.{used}
use Rattle.contrasts.proofs.Laws.Digits.{size-pos, total-cons, total-cong, total-Σ}
use Rattle.contrasts.proofs.Laws.Rows.{row-none}
use Rattle.contrasts.proofs.Laws.Signed.{count-sum}
use Rattle.contrasts.proofs.Laws.Squares.{squares}
use Rattle.contrasts.proofs.Laws.ThreeLevels.{sum, linear, quadratic, total-three, weight-all}

-- ---- the block of a run

pub digits-none : (Fs : List Factor) (r : ℕ) → digit_sum Fs 0 r ≡ 0
unfolding digit_sum
digits-none [] r = refl
digits-none (F ∷ Fs) r = simp (zero-mod, zero-div, zero-mul, digits-none Fs)

pub block_none : (Fs : List Factor) (r : ℕ) → block_of Fs 0 r ≡ 0
block_none Fs r = rw (digits-none Fs r) refl

-- i of k digits are done, and u and v hold the rest of the word's and of the run's
pub digits-turn : (k i s u v : ℕ) {S : ℕ} → i < k → s + digit_sum (replicate (k - i) three) u v ≡ S
    → s + (u % 3) * (v % 3) + digit_sum (replicate (k - (i + 1)) three) (u / 3) (v / 3) ≡ S
unfolding digit_sum three
digits-turn k i s u v h so =
    let n : k - i ≡ suc (k - (i + 1)) = omega arith in
    add_assoc s ((u % 3) * (v % 3)) (digit_sum (replicate (k - (i + 1)) three) (u / 3) (v / 3)) ∙ (rw n at so)

pub digits-bound : (k u v : ℕ) → digit_sum (replicate k three) u v ≤ 4 * k
unfolding digit_sum three
digits-bound zero u v = omega arith
digits-bound (suc k) u v = omega (arith, mul-le-mul (two u) (two v), digits-bound k (u / 3) (v / 3))
  where
    two : (n : ℕ) → n % 3 ≤ 2
    two n = omega arith

-- what is left of a number without its lowest digits
pub higher : (n i : ℕ) → n / 3 / 3 ^ i ≡ n / 3 ^ suc i
higher n i = div-div-eq-div-mul n 3 (3 ^ i) ∙ ap (λ m. n / m) (mul_comm 3 (3 ^ i) ∙ sym (pow-suc 3 i))

pub lowest : (n : ℕ) → n ≡ n / 3 ^ 0
lowest n = sym (rw (pow-zero 3) (div-one n))

-- R11: "the sum of digit times level"
pub digits_are : (k w r : ℕ) → digit_sum (replicate k three) w r ≡ Σℕ k (λ i. (w / 3 ^ i % 3) * (r / 3 ^ i % 3))
unfolding digit_sum three Σℕ
digits_are zero w r = refl
digits_are (suc k) w r =
    ap (λ n. (w % 3) * (r % 3) + n) (digits_are k (w / 3) (r / 3) ∙ Σℕ-cong k (λ i _. ap₂ (λ (a b : ℕ). (a % 3) * (b % 3)) (higher w i) (higher r i)))
    ∙ ap (λ n. n + Σℕ k (λ i. (w / 3 ^ suc i % 3) * (r / 3 ^ suc i % 3))) (ap₂ (λ (a b : ℕ). (a % 3) * (b % 3)) (lowest w) (lowest r))
    ∙ sym (Σℕ-first k (λ i. (w / 3 ^ i % 3) * (r / 3 ^ i % 3)))

-- runs that differ in the level of A alone
pub block-set : (k w q j : ℕ) → j < 3 → block_of (replicate (suc k) three) w (q * 3 + j) ≡ ((w % 3) * j + block_of (replicate k three) (w / 3) q) % 3
unfolding digit_sum three
block-set k w q j l = rw (digits_mod q l, digits_div q l) (sums ((w % 3) * j) (digit_sum (replicate k three) (w / 3) q))
  where
    sums : (a b : ℕ) → (a + b) % 3 ≡ (a + b % 3) % 3
    sums a b = omega arith

pub block-lt : (Fs : List Factor) (w r : ℕ) → block_of Fs w r < 3
block-lt Fs w r = mod-lt (digit_sum Fs w r) (lit< tt)

-- ---- three values: their sum, three times one of them less that sum, and the squares of their differences added up

abbrev all : Ex
all = lit (pos 0) ⊕ var 0 ⊕ var 1 ⊕ var 2

abbrev less : ℕ → Ex
less j = lit (pos 3) ⊗ var j ⊖ all

abbrev differences : Ex
differences = (var 0 ⊖ var 1) ⊗ (var 0 ⊖ var 1) ⊕ (var 0 ⊖ var 2) ⊗ (var 0 ⊖ var 2) ⊕ (var 1 ⊖ var 2) ⊗ (var 1 ⊖ var 2)

-- three times each, less their sum, adds up to 0
centred : (h : ℕ → ℤ) → Σ 3 (λ j. pos 3 *ℤ h j -ℤ Σ 3 h) ≡ pos 0
unfolding Σ
centred h = solve (h 0 ∷ h 1 ∷ h 2 ∷ []) (lit (pos 0) ⊕ less 0 ⊕ less 1 ⊕ less 2) (lit (pos 0)) refl

-- ---- sums by block

module _ (Fs : List Factor) (w : ℕ) (x : Column) where
  abbrev B : ℕ → ℤ
  B j = block_sum Fs w x j

  -- the terms of f, each block's by its sum
  pub by-block : (f : ℕ → ℤ) → Σ (size Fs) (λ r. x r *ℤ f (block_of Fs w r)) ≡ Σ 3 (λ j. B j *ℤ f j)
  by-block f = sym (
      Σ-ext 3 (λ j. sym (Σ-mul-r (f j) (size Fs) (own j)) ∙ Σ-ext (size Fs) (λ r. cond-*ℤ (eqb (block_of Fs w r) j) (x r) (f j)))
      ∙ Σ-swap 3 (size Fs) (λ j r. cond (eqb (block_of Fs w r) j) (x r *ℤ f j) (pos 0))
      ∙ Σ-ext (size Fs) (λ r. Σ-one 3 (block_of Fs w r) (λ j. x r *ℤ f j) (block-lt Fs w r)))
    where
      own : ℕ → ℕ → ℤ
      own j r = cond (eqb (block_of Fs w r) j) (x r) (pos 0)

  pub all_blocks : Σ (size Fs) x ≡ Σ 3 B
  all_blocks = Σ-ext (size Fs) (λ r. sym (ℤ-*one (x r))) ∙ by-block (λ j. pos 1) ∙ Σ-ext 3 (λ j. ℤ-*one (B j))

  pub block-sum-within : (M j : ℕ) → Within (size Fs) M x → nat_abs (B j) ≤ size Fs * M
  block-sum-within M j h =
      le_trans (nat_abs-Σ (size Fs) own) (Σℕ-each (size Fs) M (λ r. nat_abs (own r)) (λ r l. some (eqb (block_of Fs w r) j) (x r) (h r l)))
    where
      own : ℕ → ℤ
      own r = cond (eqb (block_of Fs w r) j) (x r) (pos 0)

      some : (b : Bool) (z : ℤ) → nat_abs z ≤ M → nat_abs (cond b z (pos 0)) ≤ M
      some true z l = l
      some false z l = omega arith

  -- ---- what the blocks differ by

  abbrev pub apart : ℕ
  apart = sq (B 0 -ℤ B 1) + sq (B 0 -ℤ B 2) + sq (B 1 -ℤ B 2)

  apart-is : pos apart ≡ (B 0 -ℤ B 1) *ℤ (B 0 -ℤ B 1) +ℤ (B 0 -ℤ B 2) *ℤ (B 0 -ℤ B 2) +ℤ (B 1 -ℤ B 2) *ℤ (B 1 -ℤ B 2)
  apart-is = sym (ap₂ ◌+ℤ◌ (ap₂ ◌+ℤ◌ (square (B 0 -ℤ B 1)) (square (B 0 -ℤ B 2))) (square (B 1 -ℤ B 2)))

  -- a function of the block that adds up to 0
  abbrev g : ℕ → ℤ
  g j = pos 3 *ℤ B j -ℤ Σ 3 B

  abbrev y : Column
  y r = g (block_of Fs w r)

  pub products : Σ (size Fs) (λ r. x r *ℤ y r) ≡ pos apart
  unfolding Σ
  products =
      by-block g
      ∙ solve (B 0 ∷ B 1 ∷ B 2 ∷ []) (lit (pos 0) ⊕ var 0 ⊗ less 0 ⊕ var 1 ⊗ less 1 ⊕ var 2 ⊗ less 2) differences refl
      ∙ sym apart-is

  three-apart : Σ 3 (λ j. g j *ℤ g j) ≡ pos 3 *ℤ pos apart
  unfolding Σ
  three-apart =
      solve (B 0 ∷ B 1 ∷ B 2 ∷ []) (lit (pos 0) ⊕ less 0 ⊗ less 0 ⊕ less 1 ⊗ less 1 ⊕ less 2 ⊗ less 2) (lit (pos 3) ⊗ differences) refl
      ∙ ap (λ z. pos 3 *ℤ z) (sym apart-is)

  pub thrice : 3 * (sq (B 0) + sq (B 1) + sq (B 2)) ≡ apart + sq (Σ (size Fs) x)
  unfolding Σ
  thrice = ap nat_abs (
      ap (λ z. pos 3 *ℤ z) (sym (ap₂ ◌+ℤ◌ (ap₂ ◌+ℤ◌ (square (B 0)) (square (B 1))) (square (B 2))))
      ∙ solve (B 0 ∷ B 1 ∷ B 2 ∷ []) (lit (pos 3) ⊗ (var 0 ⊗ var 0 ⊕ var 1 ⊗ var 1 ⊕ var 2 ⊗ var 2)) (differences ⊕ all ⊗ all) refl
      ∙ ap₂ ◌+ℤ◌ (sym apart-is) (ap (λ z. z *ℤ z) (sym all_blocks) ∙ square (Σ (size Fs) x)))

-- ---- functions of the block

abbrev Sum3 : ℤ → ℤ → ℤ → ℤ
Sum3 a b c = pos 0 +ℤ a +ℤ b +ℤ c

-- the three values of a function of the block, each block moved by n
moved : (n : ℕ) (h : ℕ → ℤ) → Sum3 (h ((n + 0) % 3)) (h ((n + 1) % 3)) (h ((n + 2) % 3)) ≡ Sum3 (h 0) (h 1) (h 2)
moved n h = by (ℕ_discrete (n % 3) 0) (ℕ_discrete (n % 3) 1)
  where
    is : (a b c : ℕ) → (n + 0) % 3 ≡ a → (n + 1) % 3 ≡ b → (n + 2) % 3 ≡ c → Sum3 (h a) (h b) (h c) ≡ Sum3 (h 0) (h 1) (h 2)
        → Sum3 (h ((n + 0) % 3)) (h ((n + 1) % 3)) (h ((n + 2) % 3)) ≡ Sum3 (h 0) (h 1) (h 2)
    is a b c p q r s = rw (p, q, r) s

    by : Dec (n % 3 ≡ 0) → Dec (n % 3 ≡ 1) → Sum3 (h ((n + 0) % 3)) (h ((n + 1) % 3)) (h ((n + 2) % 3)) ≡ Sum3 (h 0) (h 1) (h 2)
    by (yes p) q = is 0 1 2 (omega (arith, p)) (omega (arith, p)) (omega (arith, p)) refl
    by (no p) (yes q) =
        is 1 2 0 (omega (arith, q)) (omega (arith, q)) (omega (arith, q))
        (solve (h 0 ∷ h 1 ∷ h 2 ∷ []) (lit (pos 0) ⊕ var 1 ⊕ var 2 ⊕ var 0) all refl)
    by (no p) (no q) =
        is 2 0 1 (omega arith) (omega arith) (omega arith) (solve (h 0 ∷ h 1 ∷ h 2 ∷ []) (lit (pos 0) ⊕ var 2 ⊕ var 0 ⊕ var 1) all refl)

moved-Σ : (n : ℕ) (h : ℕ → ℤ) → Σ 3 (λ c. h ((n + c) % 3)) ≡ Σ 3 h
unfolding Σ
moved-Σ n h = moved n h

-- a function of the block, by row d of the first factor, where the word's first digit is v: a function of the block by the other digits
abbrev by_row : ℕ → ℕ → (ℕ → ℤ) → ℕ → ℤ
by_row d v h c = Σ 3 (λ j. three.coef d j *ℤ h ((v * j + c) % 3))

-- where h adds up to 0, so does the function by a row
row-sum : (d v : ℕ) (h : ℕ → ℤ) → Σ 3 h ≡ pos 0 → Σ 3 (by_row d v h) ≡ pos 0
row-sum d v h z =
    Σ-swap 3 3 (λ c j. three.coef d j *ℤ h ((v * j + c) % 3))
    ∙ Σ-ext 3 (λ j.
    Σ-mul (three.coef d j) 3 (λ c. h ((v * j + c) % 3))
    ∙ ap (λ t. three.coef d j *ℤ t) (moved-Σ (v * j) h ∙ z)
    ∙ *ℤ-zero (three.coef d j))
    ∙ Σ-zero 3

-- and the function by a row is 0 where one of row and digit is used and the other not
module _ (h : ℕ → ℤ) (z : Σ 3 h ≡ pos 0) (c : ℕ) where
  -- the word does not use the factor: a row other than the first adds up to 0
  unused : (d : ℕ) → d < 3 → (d ≡ 0 → ⊥) → by_row d 0 h c ≡ pos 0
  unused d l n = by (ℕ_discrete d 1)
    where
      same : (j : ℕ) → h ((0 * j + c) % 3) ≡ h (c % 3)
      same j = ap h (omega arith)

      by : Dec (d ≡ 1) → by_row d 0 h c ≡ pos 0
      by (yes e) =
          rw e (linear (λ j. h ((0 * j + c) % 3)) (same 0) (same 1) (same 2) ∙ solve (h (c % 3) ∷ []) (var 0 ⊖ var 0) (lit (pos 0)) refl)
      by (no e) =
          let f : d ≡ 2 = omega arith in
          rw f
          (quadratic (λ j. h ((0 * j + c) % 3)) (same 0) (same 1) (same 2)
          ∙ solve (h (c % 3) ∷ []) (var 0 ⊖ lit (pos 2) ⊗ var 0 ⊕ var 0) (lit (pos 0)) refl)

  -- the effect does not: h adds up to 0 over the levels
  all-levels : (v : ℕ) → v < 3 → (v ≡ 0 → ⊥) → by_row 0 v h c ≡ pos 0
  unfolding Σ
  all-levels v l n = by (ℕ_discrete v 1)
    where
      values : List ℤ
      values = h ((c + 0) % 3) ∷ h ((c + 1) % 3) ∷ h ((c + 2) % 3) ∷ []

      at : (j m : ℕ) → (v * j + c) % 3 ≡ (c + m) % 3 → h ((v * j + c) % 3) ≡ h ((c + m) % 3)
      at j m e = ap h e

      by : Dec (v ≡ 1) → by_row 0 v h c ≡ pos 0
      by (yes e) =
          sum (λ j. h ((v * j + c) % 3)) (at 0 0 (rw e (omega arith))) (at 1 1 (rw e (omega arith))) (at 2 2 (rw e (omega arith)))
          ∙ solve values (var 0 ⊕ var 1 ⊕ var 2) all refl
          ∙ moved c h ∙ z
      by (no e) =
          let f : v ≡ 2 = omega arith in
          sum (λ j. h ((v * j + c) % 3)) (at 0 0 (rw f (omega arith))) (at 1 2 (rw f (omega arith))) (at 2 1 (rw f (omega arith)))
          ∙ solve values (var 0 ⊕ var 2 ⊕ var 1) all refl
          ∙ moved c h ∙ z

  one-used : (d v : ℕ) → d < 3 → v < 3 → (used d ≡ used v → ⊥) → by_row d v h c ≡ pos 0
  one-used d v k l n = by (ℕ_discrete d 0) (ℕ_discrete v 0)
    where
      by : Dec (d ≡ 0) → Dec (v ≡ 0) → by_row d v h c ≡ pos 0
      by (yes e) (yes f) = absurd (n (rw (e, f) refl))
      by (yes e) (no f) = rw e (all-levels v l f)
      by (no e) (yes f) = rw f (unused d k e)
      by (no e) (no f) = absurd (n (rw (ne_eqb d 0 e, ne_eqb v 0 f) refl))

-- ---- they have no total outside the row of the word's letters

-- the first factor taken apart
first-digit : (k w e : ℕ) (h : ℕ → ℤ)
    → total (replicate (suc k) three) (λ r. h (block_of (replicate (suc k) three) w r)) e
    ≡ total (replicate k three) (λ q. by_row (e % 3) (w % 3) h (block_of (replicate k three) (w / 3) q)) (e / 3)
unfolding three digit_sum
first-digit k w e h =
    total-cons three (replicate k three) (λ r. h (block_of (replicate (suc k) three) w r)) e
    ∙ sym (total-Σ (replicate k three) 3 (three.coef (e % 3)) (λ j q. h (block_of (replicate (suc k) three) w (q * 3 + j))) (e / 3))
    ∙ total-cong (replicate k three) _ _ (e / 3) (λ q _. Σ-cong 3 (λ j l. ap (λ t. three.coef (e % 3) j *ℤ h t) (block-set k w q j l)))

no-total : (Fs : List Factor) (e : ℕ) → total Fs (λ r. pos 0) e ≡ pos 0
unfolding total
no-total Fs e = Σ-ext (size Fs) (λ r. zero-*ℤ (coef* Fs e r)) ∙ Σ-zero (size Fs)

pub vanishes : (k w e : ℕ) (h : ℕ → ℤ) → Σ 3 h ≡ pos 0 → (row_of (replicate k three) e ≡ row_of (replicate k three) w → ⊥)
    → total (replicate k three) (λ r. h (block_of (replicate k three) w r)) e ≡ pos 0
unfolding row_of three
vanishes zero w e h z n = absurd (n refl)
vanishes (suc k) w e h z n =
    first-digit k w e h ∙ by (ℕ_discrete (used (e % 3)) (used (w % 3))) (vanishes k (w / 3) (e / 3) rest (row-sum (e % 3) (w % 3) h z))
  where
    rest : ℕ → ℤ
    rest = by_row (e % 3) (w % 3) h

    left : Type 0
    left = total (replicate k three) (λ q. rest (block_of (replicate k three) (w / 3) q)) (e / 3) ≡ pos 0

    by : Dec (used (e % 3) ≡ used (w % 3)) → ((row_of (replicate k three) (e / 3) ≡ row_of (replicate k three) (w / 3) → ⊥) → left) → left
    by (yes s) r = r (λ t. n (rw (t, s) refl))
    by (no s) r =
        total-cong (replicate k three) _ _ (e / 3)
        (λ q _. one-used h z (block_of (replicate k three) (w / 3) q) (e % 3) (w % 3) (mod-lt e (lit< tt)) (mod-lt w (lit< tt)) s)
        ∙ no-total (replicate k three) (e / 3)

-- ---- what blocks differ by

split : (a c : ℤ) → a ≡ (a -ℤ c) +ℤ c
split a c = solve (a ∷ c ∷ []) (var 0) (var 0 ⊖ var 1 ⊕ var 1) refl

total-plus : (Fs : List Factor) (x y : Column) (e : ℕ) → total Fs (λ r. x r +ℤ y r) e ≡ total Fs x e +ℤ total Fs y e
unfolding total
total-plus Fs x y e =
    Σ-ext (size Fs) (λ r. both (x r) (y r) (coef* Fs e r)) ∙ Σ-add (size Fs) (λ r. x r *ℤ coef* Fs e r) (λ r. y r *ℤ coef* Fs e r)
  where
    both : (a b c : ℤ) → (a +ℤ b) *ℤ c ≡ a *ℤ c +ℤ b *ℤ c
    both a b c = solve (a ∷ b ∷ c ∷ []) ((var 0 ⊕ var 1) ⊗ var 2) (var 0 ⊗ var 2 ⊕ var 1 ⊗ var 2) refl

total-times : (Fs : List Factor) (c : ℤ) (x : Column) (e : ℕ) → total Fs (λ r. c *ℤ x r) e ≡ c *ℤ total Fs x e
unfolding total
total-times Fs c x e =
    Σ-ext (size Fs) (λ r. solve (c ∷ x r ∷ coef* Fs e r ∷ []) ((var 0 ⊗ var 1) ⊗ var 2) (var 0 ⊗ (var 1 ⊗ var 2)) refl) ∙ Σ-mul c (size Fs) (λ r. x r *ℤ coef* Fs e r)

-- a third of 0
no_third : (z : ℤ) → pos 3 *ℤ z ≡ pos 0 → z ≡ pos 0
no_third (pos zero) e = refl
no_third (pos (suc n)) e = absurd (omega (arith, nat_abs-*ℤ (pos 3) (pos (suc n)), ap nat_abs e))
no_third (negsuc n) e = absurd (omega (arith, nat_abs-*ℤ (pos 3) (negsuc n), ap nat_abs e))

module _ (k e : ℕ) (used-letters : row_of (replicate k three) e ≡ 0 → ⊥) where
  -- all blocks alike: by the word that uses no letter, for which all runs are in block 0
  alike-none : (c : ℤ) → total (replicate k three) (λ r. c) e ≡ pos 0
  unfolding Σ
  alike-none c =
      sym (total-cong (replicate k three) _ _ e (λ r _. ap own (block_none (replicate k three) r)))
      ∙ vanishes k 0 e own (solve (c ∷ []) (lit (pos 0) ⊕ var 0 ⊕ (lit (pos 0) ⊖ var 0) ⊕ lit (pos 0)) (lit (pos 0)) refl) (λ s. used-letters (s ∙ row-none (replicate k three)))
    where
      own : ℕ → ℤ
      own j = cond (eqb j 0) c (cond (eqb j 1) (pos 0 -ℤ c) (pos 0))

  pub untouched : (w : ℕ) (x : Column) (h : ℕ → ℤ) → (row_of (replicate k three) e ≡ row_of (replicate k three) w → ⊥)
      → total (replicate k three) (λ r. x r +ℤ h (block_of (replicate k three) w r)) e ≡ total (replicate k three) x e
  untouched w x h other =
      total-plus Fs x own e ∙ ap (λ z. total Fs x e +ℤ z) (no_third (total Fs own e) (sym (total-times Fs (pos 3) own e) ∙ thirds)) ∙ +ℤ_idr (total Fs x e)
    where
      Fs : List Factor
      Fs = replicate k three

      own : Column
      own r = h (block_of Fs w r)

      -- three times the column, less the sum of the three, and that sum
      thirds : total Fs (λ r. pos 3 *ℤ own r) e ≡ pos 0
      thirds =
          total-cong Fs _ _ e (λ r _. split (pos 3 *ℤ own r) (Σ 3 h))
          ∙ total-plus Fs (λ r. pos 3 *ℤ own r -ℤ Σ 3 h) (λ r. Σ 3 h) e
          ∙ ap₂ ◌+ℤ◌ (vanishes k w e (λ j. pos 3 *ℤ h j -ℤ Σ 3 h) (centred h) other) (alike-none (Σ 3 h))

-- ---- a word that uses a letter

-- of three blocks one is block j
one_of_three : (j : ℕ) → j < 3 → Σ 3 (λ i. δ i j) ≡ pos 1
unfolding Σ every
one_of_three j h = eqZ→eq (Σ 3 (λ i. δ i j)) (pos 1) (every-at 3 (λ j. eq_z (Σ 3 (λ i. δ i j)) (pos 1)) tt j h)

module _ (k w : ℕ) (some : row_of (replicate k three) w ≡ 0 → ⊥) where
  abbrev Fs : List Factor
  Fs = replicate k three

  abbrev N : ℕ
  N = size Fs

  -- ---- blocks of as many runs each

  -- by effect 0, whose total is the sum over the runs
  pub evenly : (h : ℕ → ℤ) → pos 3 *ℤ Σ N (λ r. h (block_of Fs w r)) ≡ pos N *ℤ Σ 3 h
  evenly h =
      sym (Σ-mul (pos 3) N (λ r. h (block_of Fs w r)))
      ∙ Σ-ext N (λ r. split (pos 3 *ℤ h (block_of Fs w r)) (Σ 3 h))
      ∙ Σ-add N (λ r. c (block_of Fs w r)) (λ r. Σ 3 h)
      ∙ ap₂ ◌+ℤ◌ (sym (total-three k (λ r. c (block_of Fs w r))) ∙ vanishes k w 0 c (centred h) (λ e. some (sym e ∙ row-none Fs))) (Σ-const N (Σ 3 h))
      ∙ +ℤ_idl (pos N *ℤ Σ 3 h)
    where
      c : ℕ → ℤ
      c j = pos 3 *ℤ h j -ℤ Σ 3 h

  -- each block has a third of the runs
  pub block-runs : (j : ℕ) → j < 3 → 3 * block_runs Fs w j ≡ N
  block-runs j h =
      ap nat_abs (
      ap (λ z. pos 3 *ℤ z) (sym (count-sum N (λ r. eqb (block_of Fs w r) j)))
      ∙ evenly (λ i. δ i j)
      ∙ ap (λ z. pos N *ℤ z) (one_of_three j h)
      ∙ ℤ-*one (pos N))

  module _ (x : Column) where
    -- three times the squares of y; a third of each side
    pub squares-of-y : Σℕ N (λ r. sq (y Fs w x r)) ≡ N * apart Fs w x
    squares-of-y = thirds (Σℕ N (λ r. sq (y Fs w x r))) (ap nat_abs (
        ap (λ z. pos 3 *ℤ z) (squares-of N (y Fs w x))
        ∙ evenly (λ j. g Fs w x j *ℤ g Fs w x j)
        ∙ ap (λ z. pos N *ℤ z) (three-apart Fs w x)))
      where
        thirds : (a : ℕ) → 3 * a ≡ N * (3 * apart Fs w x) → a ≡ N * apart Fs w x
        thirds a e = omega (arith, e, mul_left_comm N 3 (apart Fs w x))

    -- ---- what the amount leaves of the row, times N N, is a sum of squares

    abbrev D : ℕ
    D = denominator Fs

    abbrev tx : ℕ → ℤ
    tx e = total Fs x e

    abbrev ty : ℕ → ℤ
    ty e = total Fs (y Fs w x) e

    abbrev W : ℕ → ℤ
    W e = pos (weight* Fs e)

    abbrev in_row : ℕ → Bool
    in_row e = eqb (row_of Fs e) (row_of Fs w)

    abbrev left : ℕ → ℕ
    left e = cond (in_row e) (weight* Fs e * sq (pos N *ℤ tx e -ℤ ty e)) 0

    abbrev own : ℕ → ℕ
    own e = cond (in_row e) (numerator Fs x e) 0

    -- outside the row y has no total
    each : (e : ℕ) → pos (left e) +ℤ (pos 2 *ℤ pos N) *ℤ (W e *ℤ (tx e *ℤ ty e)) ≡ (pos N *ℤ pos N) *ℤ pos (own e) +ℤ W e *ℤ (ty e *ℤ ty e)
    unfolding numerator_of
    each e = by (ℕ_discrete (row_of Fs e) (row_of Fs w))
      where
        inside : (n v a c : ℤ) → v *ℤ ((n *ℤ a -ℤ c) *ℤ (n *ℤ a -ℤ c)) +ℤ (pos 2 *ℤ n) *ℤ (v *ℤ (a *ℤ c))
            ≡ (n *ℤ n) *ℤ ((a *ℤ a) *ℤ v) +ℤ v *ℤ (c *ℤ c)
        inside n v a c =
            solve (n ∷ v ∷ a ∷ c ∷ [])
            (var 1 ⊗ ((var 0 ⊗ var 2 ⊖ var 3) ⊗ (var 0 ⊗ var 2 ⊖ var 3)) ⊕ (lit (pos 2) ⊗ var 0) ⊗ (var 1 ⊗ (var 2 ⊗ var 3)))
            ((var 0 ⊗ var 0) ⊗ ((var 2 ⊗ var 2) ⊗ var 1) ⊕ var 1 ⊗ (var 3 ⊗ var 3)) refl

        outside : (n v a : ℤ) → pos 0 +ℤ (pos 2 *ℤ n) *ℤ (v *ℤ (a *ℤ pos 0)) ≡ (n *ℤ n) *ℤ pos 0 +ℤ v *ℤ (pos 0 *ℤ pos 0)
        outside n v a =
            solve (n ∷ v ∷ a ∷ [])
            (lit (pos 0) ⊕ (lit (pos 2) ⊗ var 0) ⊗ (var 1 ⊗ (var 2 ⊗ lit (pos 0))))
            ((var 0 ⊗ var 0) ⊗ lit (pos 0) ⊕ var 1 ⊗ (lit (pos 0) ⊗ lit (pos 0))) refl

        by : Dec (row_of Fs e ≡ row_of Fs w)
            → pos (left e) +ℤ (pos 2 *ℤ pos N) *ℤ (W e *ℤ (tx e *ℤ ty e)) ≡ (pos N *ℤ pos N) *ℤ pos (own e) +ℤ W e *ℤ (ty e *ℤ ty e)
        by (yes p) =
            rw (eq-eqb (row_of Fs e) (row_of Fs w) p)
            (ap (λ z. W e *ℤ z +ℤ (pos 2 *ℤ pos N) *ℤ (W e *ℤ (tx e *ℤ ty e))) (sym (square (pos N *ℤ tx e -ℤ ty e)))
            ∙ inside (pos N) (W e) (tx e) (ty e)
            ∙ ap (λ z. (pos N *ℤ pos N) *ℤ (z *ℤ W e) +ℤ W e *ℤ (ty e *ℤ ty e)) (square (tx e)))
        by (no p) =
            rw (ne_eqb (row_of Fs e) (row_of Fs w) p, vanishes k w e (g Fs w x) (centred (B Fs w x)) p) (outside (pos N) (W e) (tx e))

    -- the products of the totals of x and y, and the squares of those of y, by `squares`
    cross : Σ N (λ e. W e *ℤ (tx e *ℤ ty e)) ≡ pos (D * apart Fs w x)
    cross = squares Fs x (y Fs w x) ∙ ap (λ z. pos D *ℤ z) (products Fs w x)

    squared : Σ N (λ e. W e *ℤ (ty e *ℤ ty e)) ≡ pos (D * (N * apart Fs w x))
    squared = squares Fs (y Fs w x) (y Fs w x) ∙ ap (λ z. pos D *ℤ z) (sym (squares-of N (y Fs w x)) ∙ ap pos squares-of-y)

    pub remainder : Σℕ N left + N * (D * apart Fs w x) ≡ N * N * row_numerator Fs x (row_of Fs w)
    unfolding sum_at
    remainder = settle (Σℕ N left) (D * apart Fs w x) (N * N * Σℕ N own) (mul_left_comm D N (apart Fs w x)) (ap nat_abs (
        ap₂ ◌+ℤ◌ (Σℕ-pos N left) (ap (λ z. (pos 2 *ℤ pos N) *ℤ z) (sym cross) ∙ sym (Σ-mul (pos 2 *ℤ pos N) N (λ e. W e *ℤ (tx e *ℤ ty e))))
        ∙ sym (Σ-add N (λ e. pos (left e)) (λ e. (pos 2 *ℤ pos N) *ℤ (W e *ℤ (tx e *ℤ ty e))))
        ∙ Σ-ext N each
        ∙ Σ-add N (λ e. (pos N *ℤ pos N) *ℤ pos (own e)) (λ e. W e *ℤ (ty e *ℤ ty e))
        ∙ ap₂ ◌+ℤ◌ (Σ-mul (pos N *ℤ pos N) N (λ e. pos (own e)) ∙ ap (λ z. (pos N *ℤ pos N) *ℤ z) (sym (Σℕ-pos N own))) squared))
      where
        settle : (l u m : ℕ) {q : ℕ} → q ≡ N * u → l + 2 * N * u ≡ m + q → l + N * u ≡ m
        settle l u m f h = omega (arith, f, h, mul_assoc 2 N u)

    -- the denominator over N
    abbrev P : ℕ
    P = weight* Fs 0

    pub inside-row : P * apart Fs w x ≤ row_numerator Fs x (row_of Fs w)
    inside-row =
        let e : N * (N * (P * apart Fs w x)) ≡ N * (D * apart Fs w x)
        = ap (λ n. N * n) (sym (mul_assoc N P (apart Fs w x)) ∙ ap (λ n. n * apart Fs w x) (weight-all k)) in
        le_of_mul-le-mul_left {k = N}
        (le_of_mul-le-mul_left {k = N} (rw (e, ← (mul_assoc N N (row_numerator Fs x (row_of Fs w))), ← remainder) (omega arith)) (size-pos Fs))
        (size-pos Fs)

    -- ---- the block amount, as the rule words it, of runs made r times

    module _ (r : ℕ) (made : 0 < r) where
      abbrev top : ℕ → ℕ
      top j = r * D * sq (B Fs w x j)

      abbrev bottom : ℕ → ℕ
      bottom j = r * block_runs Fs w j

      pub no-remainder : (j : ℕ) → j < 3 → top j ≡ bottom j * (3 * P * sq (B Fs w x j))
      no-remainder j h =
          ap (λ d. r * d * sq (B Fs w x j)) (sym (weight-all k) ∙ ap (λ n. n * P) (sym (block-runs j h)))
          ∙ regroup (block_runs Fs w j) P (sq (B Fs w x j))
        where
          regroup : (n p q : ℕ) → r * (3 * n * p) * q ≡ r * n * (3 * p * q)
          regroup n p q = omega arith

      share : (j : ℕ) → j < 3 → top j / bottom j ≡ 3 * P * sq (B Fs w x j)
      share j h = div-eq_of_eq-mul_right (mul-pos made (omega (arith, block-runs j h, size-pos Fs))) (no-remainder j h)

      -- the mean's term and the amount
      shares_out : Σℕ 3 (λ j. top j / bottom j) ≡ P * apart Fs w x + numerator Fs x 0
      unfolding Σℕ numerator_of
      shares_out =
          Σℕ-cong 3 share
          ∙ rw (total-three k x) (times (sq (B Fs w x 0)) (sq (B Fs w x 1)) (sq (B Fs w x 2)) (apart Fs w x) (sq (Σ N x)) P (thrice Fs w x))
        where
          times : (a b c d t p : ℕ) → 3 * (a + b + c) ≡ d + t → 0 + 3 * p * a + 3 * p * b + 3 * p * c ≡ p * d + t * p
          times a b c d t p e = let f : 3 * (a + b + c) * p ≡ (d + t) * p = ap (λ n. n * p) e in omega (arith, f)

      pub amount-is : block_numerator Fs r w x ≡ P * apart Fs w x
      unfolding block_numerator
      amount-is = omega (arith, shares_out)

      pub not-cut : block_numerator Fs r w x + numerator Fs x 0 ≡ Σℕ 3 (λ j. top j / bottom j)
      not-cut = ap (λ n. n + numerator Fs x 0) amount-is ∙ sym shares_out

      pub amount-whole : N * r * block_numerator Fs r w x + r * D * sq (Σ N x) ≡ r * D * (3 * Σℕ 3 (λ j. sq (B Fs w x j)))
      unfolding Σℕ
      amount-whole =
          rw (amount-is, ← (weight-all k))
          (all_in (sq (B Fs w x 0)) (sq (B Fs w x 1)) (sq (B Fs w x 2)) (apart Fs w x) (sq (Σ N x)) N P (thrice Fs w x))
        where
          all_in : (a b c d t n p : ℕ) → 3 * (a + b + c) ≡ d + t → n * r * (p * d) + r * (n * p) * t ≡ r * (n * p) * (3 * (0 + a + b + c))
          all_in a b c d t n p e =
              let f : r * (n * p) * (3 * (a + b + c)) ≡ r * (n * p) * (d + t) = ap (λ m. r * (n * p) * m) e in
              omega (arith, f)

      -- V20: "The remainder is never negative"
      pub never-negative : block_numerator Fs r w x ≤ row_numerator Fs x (row_of Fs w)
      never-negative = rw amount-is inside-row
