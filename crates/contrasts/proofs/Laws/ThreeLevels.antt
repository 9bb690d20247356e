-- Three levels, in the words of "Totals and passes": what the general definitions come to.
--
--   sum, linear, quadratic    the three rows, over any three values
--   pass-three                the pass
--   step-three                the report's step
--   size-three                the number of runs
--   divisor-three             the divisors of fewer factors
--   denominator-three         the common denominator
--   total-three               the total of effect 0
--   weight-first, weight-all  the weight of effect 0, and N times it
--   weight-fits               a weight of six factors or fewer is small
--   row-turn-three            a turn of a loop that collects an effect's row
--   used-degrees              the degrees of a row that has a letter
--   row-three, weight-three   the rows and the weights of three effects that differ in the lowest digit alone
--   round-three               a round of the check
--   round-bound               the growth of values in it
use Rattle.std.specs.Prelude.{◌≡◌, refl, cond, [], ◌∷◌, ℕ, suc, ◌+◌, ◌*◌, ◌-◌, ◌^◌, ◌/◌, ◌%◌, ◌<◌, ◌≤◌, eqb, ℤ, pos, nat_abs, ◌+ℤ◌, ◌*ℤ◌, ◌-ℤ◌, replicate}
use Rattle.std.proofs.Math.Path.{sym, ap}
use Rattle.std.proofs.Common.{◌∙◌, le_trans, add-one, arith, lit<}
use Rattle.std.proofs.Math.Nat.{mul-div_left, one-le-pow, pow-le-pow_right, add-zero}
use Rattle.algebra.specs.Tests.{every, eq_z}
use Rattle.algebra.specs.Laws.Tests.{every-at, eqZ→eq}
use Rattle.algebra.specs.Laws.Solve.{solve, var, lit, ◌⊕◌, ◌⊖◌, ◌⊗◌}
use Rattle.algebra.specs.Laws.Size.{nat_abs-+ℤ, nat_abs-sub, nat_abs-*ℤ}
use Rattle.algebra.specs.Sum.{Σ}
use Rattle.contrasts.specs.Factor.{weight}
use Rattle.contrasts.proofs.Factors.{three}
use Rattle.contrasts.specs.Codings.{neg}
use Rattle.contrasts.specs.Totals.{Column, size, total, divisor*, denominator, weight*}
use Rattle.contrasts.specs.Passes.{pass_at}
use Rattle.contrasts.specs.Steps.{step}
use Rattle.contrasts.specs.Checks.{check_weight, round}
use Rattle.contrasts.specs.Rows.{row_of, degrees_of}
use Rattle.contrasts.proofs.Laws.Divisors.{shares, divisor-by, weight-by, weight-le, by-digit}
use Rattle.contrasts.proofs.Laws.Rows.{row-again, row-turn}
use Rattle.contrasts.proofs.Laws.Degrees.{letter-degrees}
use Rattle.contrasts.proofs.Laws.Replicated.{size-alike, denominator-alike, by_first, by-fewer, total_first, divisor-first}
use Rattle.contrasts.proofs.Laws.Steps.{step_value}
use Rattle.contrasts.proofs.Laws.Stretches.{pass-value}

-- ---- the rows

module _ (y : Column) {a b c : ℤ} (first : y 0 ≡ a) (middle : y 1 ≡ b) (third : y 2 ≡ c) where
  pub sum : Σ 3 (λ j. three.coef 0 j *ℤ y j) ≡ a +ℤ b +ℤ c
  unfolding three Σ
  sum =
      rw (first, middle, third)
      (solve (a ∷ b ∷ c ∷ []) (lit (pos 0) ⊕ lit (pos 1) ⊗ var 0 ⊕ lit (pos 1) ⊗ var 1 ⊕ lit (pos 1) ⊗ var 2)
      (var 0 ⊕ var 1 ⊕ var 2) refl)

  pub linear : Σ 3 (λ j. three.coef 1 j *ℤ y j) ≡ a -ℤ c
  unfolding three Σ
  linear =
      rw (first, middle, third)
      (solve (a ∷ b ∷ c ∷ []) (lit (pos 0) ⊕ lit (pos 1) ⊗ var 0 ⊕ lit (pos 0) ⊗ var 1 ⊕ lit (neg 1) ⊗ var 2)
      (var 0 ⊖ var 2) refl)

  pub quadratic : Σ 3 (λ j. three.coef 2 j *ℤ y j) ≡ a -ℤ pos 2 *ℤ b +ℤ c
  unfolding three Σ
  quadratic =
      rw (first, middle, third)
      (solve (a ∷ b ∷ c ∷ []) (lit (pos 0) ⊕ lit (pos 1) ⊗ var 0 ⊕ lit (neg 2) ⊗ var 1 ⊕ lit (pos 1) ⊗ var 2)
      (var 0 ⊖ lit (pos 2) ⊗ var 1 ⊕ var 2) refl)

-- ---- the pass

-- "At three levels it replaces first, middle and third by their sum, first minus third, and first minus twice middle plus third." The place p
-- is that of a first value: it is in stretch q, at an offset i below the spacing s.
pub pass-three : (s : ℕ) (x : Column) (q i p : ℕ) → p ≡ q * (3 * s) + i → i < s
    → (pass_at s three x p ≡ x p +ℤ x (p + s) +ℤ x (p + 2 * s))
    × (pass_at s three x (p + s) ≡ x p -ℤ x (p + 2 * s))
    × (pass_at s three x (p + 2 * s) ≡ x p -ℤ pos 2 *ℤ x (p + s) +ℤ x (p + 2 * s))
unfolding three
pass-three s x q i p e h = (
  ap (pass_at s three x) first ∙ pass-value s three x q i p e h 0 (lit< tt) ∙ sum (λ j. x (p + j * s)) (ap x (sym first)) (ap x (sym middle)) refl,
  ap (pass_at s three x) middle ∙ pass-value s three x q i p e h 1 (lit< tt) ∙ linear (λ j. x (p + j * s)) (ap x (sym first)) (ap x (sym middle)) refl,
  pass-value s three x q i p e h 2 (lit< tt) ∙ quadratic (λ j. x (p + j * s)) (ap x (sym first)) (ap x (sym middle)) refl,
)
  where
    first : p ≡ p + 0 * s
    first = omega arith

    middle : p + s ≡ p + 1 * s
    middle = omega arith

-- ---- the report's step

-- "all sums first, then the differences, at three levels then the third combination": the set of places 3 q to 3 q + 2, of n sets
pub step-three : (n : ℕ) (x : Column) (q : ℕ) → q < n
    → (step (3 * n) three x q ≡ x (q * 3) +ℤ x (q * 3 + 1) +ℤ x (q * 3 + 2))
    × (step (3 * n) three x (n + q) ≡ x (q * 3) -ℤ x (q * 3 + 2))
    × (step (3 * n) three x (2 * n + q) ≡ x (q * 3) -ℤ pos 2 *ℤ x (q * 3 + 1) +ℤ x (q * 3 + 2))
unfolding three
step-three n x q h = (
  ap (step (3 * n) three x) sums ∙ step_value three n x 0 q h ∙ sum (λ j. x (q * 3 + j)) first refl refl,
  ap (step (3 * n) three x) differences ∙ step_value three n x 1 q h ∙ linear (λ j. x (q * 3 + j)) first refl refl,
  step_value three n x 2 q h ∙ quadratic (λ j. x (q * 3 + j)) first refl refl,
)
  where
    sums : q ≡ 0 * n + q
    sums = omega arith

    differences : n + q ≡ 1 * n + q
    differences = omega arith

    first : x (q * 3 + 0) ≡ x (q * 3)
    first = ap x (add-zero (q * 3))

-- ---- divisors and denominator

pub size-three : (k : ℕ) → size (replicate k three) ≡ 3 ^ k
unfolding three
size-three k = size-alike k three

-- "with fewer factors the entry is divided by 3 for each factor missing"
pub divisor-three : (k j e : ℕ) → e < 3 ^ k → divisor* (replicate k three) e ≡ divisor* (replicate (k + j) three) e / 3 ^ j
unfolding three
divisor-three k j e h =
    sym (rw (by-fewer divisor-by k j three e (rw (size-alike k three) h)) (mul-div_left (divisor* (replicate k three) e) (one-le-pow j 3 (lit< tt))))

-- "or 6 to the power k"
pub denominator-three : (k : ℕ) → denominator (replicate k three) ≡ 6 ^ k
unfolding three
denominator-three k = denominator-alike k three

-- ---- effect 0

first-row : (j : ℕ) → j < 3 → three.coef 0 j ≡ pos 1
unfolding three every
first-row j h = eqZ→eq (three.coef 0 j) (pos 1) (every-at 3 (λ j. eq_z (three.coef 0 j) (pos 1)) tt j h)

pub total-three : (k : ℕ) (x : Column) → total (replicate k three) x 0 ≡ Σ (size (replicate k three)) x
unfolding three
total-three k x = total_first three first-row k x

-- N times the weight of effect 0 is the denominator
pub weight-all : (k : ℕ) → size (replicate k three) * weight* (replicate k three) 0 ≡ denominator (replicate k three)
unfolding three
weight-all k = rw (← (divisor-first three first-row k)) (shares (replicate k three) 0)

-- ---- rows and weights

pub row-turn-three : (k i row bit e : ℕ) {R : ℕ} → i < k → row + bit * row_of (replicate (k - i) three) e ≡ R
    → row + cond (eqb (e % 3) 0) 0 bit + 2 * bit * row_of (replicate (k - (i + 1)) three) (e / 3) ≡ R
unfolding three
row-turn-three k i row bit e h so = row-turn three k i row bit e h so

-- "Its degrees are 2 for each letter multiplied"
pub used-degrees : (k e : ℕ) → (row_of (replicate k three) e ≡ 0 → ⊥) → 2 ≤ degrees_of (replicate k three) (row_of (replicate k three) e)
unfolding three
used-degrees k e n = letter-degrees three (omega arith) k e n

-- A weight is the product of 2, 3 or 1 by digit: 6 over 3, over 2 and over 6. So effect 0 has a 2 for each factor.
pub weight-first : (k : ℕ) → weight* (replicate k three) 0 ≡ 2 ^ k
unfolding three
weight-first k = by_first weight-by k three

-- at most 6 to the power 6
pub weight-fits : (k e : ℕ) → k ≤ 6 → weight* (replicate k three) e ≤ 46656
weight-fits k e h =
    le_trans (weight-le (replicate k three) e) (rw (denominator-three k) (pow-le-pow_right {n = 6} (omega arith) {i = k} {j = 6} h))

-- Three effects that differ in the lowest digit alone, from the effect of their other digits. There are m factors, one more than k.
module _ (k q : ℕ) (h : q < 3 ^ k) {m : ℕ} (more : m ≡ suc k) where
  below : q < size (replicate k three)
  below = rw (size-three k) h

  pub row-three : (row_of (replicate m three) (q * 3) ≡ row_of (replicate m three) q * 2)
      × (row_of (replicate m three) (q * 3 + 1) ≡ row_of (replicate m three) q * 2 + 1)
      × (row_of (replicate m three) (q * 3 + 2) ≡ row_of (replicate m three) q * 2 + 1)
  unfolding three
  row-three =
      rw more (
        ap (row_of (replicate (suc k) three)) (sym (add-zero (q * 3))) ∙ row-again three k q 0 below (lit< tt) ∙ add-zero _,
        row-again three k q 1 below (lit< tt),
        row-again three k q 2 below (lit< tt),
      )

  -- the last digit of q is 0, for which it has a 2
  twice : weight* (replicate m three) q ≡ weight* (replicate k three) q * 2
  unfolding three
  twice = ap (λ n. weight* (replicate n three) q) (more ∙ sym (add-one k)) ∙ by-fewer weight-by k 1 three q below

  half : weight* (replicate m three) q / 2 ≡ weight* (replicate k three) q
  half = rw twice (mul-div_left (weight* (replicate k three) q) (lit< tt))

  digit : (d : ℕ) → d < 3 → weight* (replicate m three) (q * 3 + d) ≡ weight three d * weight* (replicate k three) q
  unfolding three
  digit d l = rw more (by-digit weight-by three (replicate k three) q d l)

  pub weight-three : (weight* (replicate m three) (q * 3) ≡ weight* (replicate m three) q)
      × (weight* (replicate m three) (q * 3 + 1) ≡ 3 * (weight* (replicate m three) q / 2))
      × (weight* (replicate m three) (q * 3 + 2) ≡ weight* (replicate m three) q / 2)
  unfolding three
  weight-three = (
    ap (weight* (replicate m three)) (sym (add-zero (q * 3))) ∙ digit 0 (lit< tt) ∙ omega (arith, twice),
    digit 1 (lit< tt) ∙ omega (arith, half),
    digit 2 (lit< tt) ∙ omega (arith, half),
  )

-- ---- the check

-- "3 times first minus middle plus third". That the check sum is what k such rounds leave is `check-rounds`, for any factors.
pub round-three : (x : Column) (q : ℕ) → round three x q ≡ pos 3 *ℤ x (q * 3) -ℤ x (q * 3 + 1) +ℤ x (q * 3 + 2)
unfolding round check_weight three Σ
round-three x q =
    rw (add-zero (q * 3))
    (solve (x (q * 3) ∷ x (q * 3 + 1) ∷ x (q * 3 + 2) ∷ [])
    (lit (pos 0) ⊕ lit (pos 3) ⊗ var 0 ⊕ lit (neg 1) ⊗ var 1 ⊕ lit (pos 1) ⊗ var 2) (lit (pos 3) ⊗ var 0 ⊖ var 1 ⊕ var 2) refl)

-- times 5 at most
pub round-bound : (x : Column) (q M : ℕ) → ((i : ℕ) → nat_abs (x i) ≤ M) → nat_abs (round three x q) ≤ 5 * M
round-bound x q M h =
    rw (round-three x q)
    (omega (
      arith,
      h (q * 3),
      h (q * 3 + 1),
      h (q * 3 + 2),
      nat_abs-*ℤ (pos 3) (x (q * 3)),
      nat_abs-sub (pos 3 *ℤ x (q * 3)) (x (q * 3 + 1)),
      nat_abs-+ℤ (pos 3 *ℤ x (q * 3) -ℤ x (q * 3 + 1)) (x (q * 3 + 2)),
    ))
