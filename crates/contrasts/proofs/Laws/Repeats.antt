-- Runs that are made r times: their sums, and the squares of readings about their run's mean.
--
--   sums-long, sums-read     there are as many run sums as runs, and each is the sum of its run's readings
--   sums-once                of runs made once they are the readings
--   sums-within              they are within r times the limit of the readings
--   by-run                   sums over all readings, run by run
--   about-means              all deviations squared, of n runs
--   sums-least               the squares of the run sums are at most r times those of the readings: those about the means are never negative
--   deviations-are           all deviations squared, of the runs of a plan
--   within-is                the squares about the means as code forms them
--   all-squares              "the numerators of all N effects and the numerator of these squares over the new denominator add up"
--   squares-fit              the sum that they add up to is within the limit of numerators
--   same-weight              "The denominator, all divisors [..] are multiplied by r": no weight changes
use Rattle.std.specs.Prelude.{◌≡◌, Bool, true, false, cond, List, [], ◌∷◌, ℤ, pos, nat_abs, ◌+ℤ◌, ◌*ℤ◌, ◌-ℤ◌, length}
use Rattle.std.proofs.Math.Path.{refl, ap, ap₂}
use Rattle.std.proofs.Common.{sym, ◌∙◌, add-zero, mul-one, mul-pos, mul_assoc, mul-add, mul-le-mul_left}
use Prim.Native.Nat.{ℕ, ◌+◌, ◌*◌, ◌-◌, ◌/◌, ◌<◌, ◌≤◌}
use Rattle.std.proofs.Math.Nat.{le_trans, mul_comm, mul-sub, mul-le-mul, div-eq_of_eq-mul_right, le_of_mul-le-mul_left}
use native.Mathlib.Omega.{arith}
use Rattle.std.proofs.Math.Arith.{digits_div}
use Rattle.algebra.specs.Sum.{Σ}
use Rattle.algebra.specs.Naturals.{Σℕ}
use Rattle.algebra.specs.Laws.Size.{sq, squares-of, nat_abs-Σ}
use Rattle.algebra.specs.Laws.Solve.{solve, var, lit, ◌⊕◌, ◌⊖◌, ◌⊗◌}
use Rattle.algebra.specs.Laws.Sum.{Σ-ext, Σ-cong, Σ-unit, Σ-zero, Σ-const, Σ-add, Σ-mul, Σ-digits}
use Rattle.algebra.specs.Laws.Naturals.{Σℕ-pos, Σℕ-cong, Σℕ-each}
use Rattle.algebra.specs.Laws.Tab.{length-tab, get_or-tab, is-tab}
use Rattle.contrasts.specs.Factor.{Factor}
use Rattle.contrasts.specs.Codings.{neg}
use Rattle.contrasts.specs.Totals.{Column, size, divisor*, denominator, weight*, numerator, squared}
use Rattle.contrasts.specs.Columns.{read, AllWithin, run_sums_in, squares_of}
use Rattle.contrasts.specs.Repeats.{run_sums, deviation, within_runs}
use Rattle.contrasts.proofs.Laws.Divisors.{divisor*-pos, shares}
use Rattle.contrasts.proofs.Laws.Limits.{Roomy}
use Rattle.contrasts.proofs.Laws.Squares.{numerators}
use Rattle.contrasts.proofs.Laws.Within.{within-tab}

-- ---- run sums

pub sums-long : (n r : ℕ) (xs : List ℤ) → length (run_sums_in n r xs) ≡ n
unfolding run_sums_in
sums-long n r xs = length-tab n (run_sums r (read xs))

pub sums-read : (n r : ℕ) (xs : List ℤ) (i : ℕ) → i < n → read (run_sums_in n r xs) i ≡ run_sums r (read xs) i
unfolding run_sums_in
sums-read n r xs i h = get_or-tab (pos 0) n (run_sums r (read xs)) i h

pub sums-once : {n : ℕ} {xs : List ℤ} → length xs ≡ n → run_sums_in n 1 xs ≡ xs
unfolding run_sums_in run_sums
sums-once {n} {xs} e = sym (is-tab (pos 0) xs n (run_sums 1 (read xs)) e (λ i h. sym (Σ-unit (λ j. read xs (i * 1 + j)) ∙ ap (read xs) (add-zero (i * 1) ∙ mul-one i))))

pub sums-within : (n r M : ℕ) (xs : List ℤ) → AllWithin M xs → AllWithin (r * M) (run_sums_in n r xs)
unfolding run_sums_in run_sums
sums-within n r M xs h =
    within-tab n (r * M) (run_sums r (read xs))
    (λ i _.
    le_trans (nat_abs-Σ r (λ j. read xs (i * r + j)))
    (Σℕ-each r M (λ j. nat_abs (read xs (i * r + j))) (λ j _. h (i * r + j))))

-- ---- the squares about the run's mean

-- the readings of the runs that are chosen
pub by-run : (n r : ℕ) → 0 < r → (chosen : ℕ → Bool) (x : Column)
    → Σ (n * r) (λ i. cond (chosen (i / r)) (x i) (pos 0)) ≡ Σ n (λ q. cond (chosen q) (run_sums r x q) (pos 0))
unfolding run_sums
by-run n r some chosen x =
    ap (λ m. Σ m (λ i. cond (chosen (i / r)) (x i) (pos 0))) (mul_comm n r)
    ∙ Σ-digits r n (λ i. cond (chosen (i / r)) (x i) (pos 0))
    ∙ Σ-ext n (λ q. Σ-cong r (λ d l. ap (λ m. cond (chosen m) (x (q * r + d)) (pos 0)) (digits_div q l)) ∙ together (chosen q) (λ d. x (q * r + d)))
  where
    together : (b : Bool) (u : ℕ → ℤ) → Σ r (λ d. cond b (u d) (pos 0)) ≡ cond b (Σ r u) (pos 0)
    together true u = refl
    together false u = Σ-zero r

-- one run: r deviations squared are r times (r times the squares, less the square of the sum)
one-run : (r : ℕ) (u : ℕ → ℤ)
    → Σ r (λ j. (pos r *ℤ u j -ℤ Σ r u) *ℤ (pos r *ℤ u j -ℤ Σ r u)) +ℤ pos r *ℤ (Σ r u *ℤ Σ r u)
    ≡ pos r *ℤ (pos r *ℤ Σ r (λ j. u j *ℤ u j))
one-run r u =
    ap (λ z. z +ℤ m *ℤ (s *ℤ s))
    (Σ-ext r (λ j. term m (u j) s)
    ∙ Σ-add r (λ j. (m *ℤ m) *ℤ (u j *ℤ u j)) (λ j. (neg 2 *ℤ (m *ℤ s)) *ℤ u j +ℤ s *ℤ s)
    ∙ ap₂ ◌+ℤ◌ (Σ-mul (m *ℤ m) r (λ j. u j *ℤ u j))
    (Σ-add r (λ j. (neg 2 *ℤ (m *ℤ s)) *ℤ u j) (λ j. s *ℤ s)
    ∙ ap₂ ◌+ℤ◌ (Σ-mul (neg 2 *ℤ (m *ℤ s)) r u) (Σ-const r (s *ℤ s))))
    ∙ solve (m ∷ s ∷ Σ r (λ j. u j *ℤ u j) ∷ [])
    ((var 0 ⊗ var 0) ⊗ var 2 ⊕ ((lit (neg 2) ⊗ (var 0 ⊗ var 1)) ⊗ var 1 ⊕ var 0 ⊗ (var 1 ⊗ var 1)) ⊕ var 0 ⊗ (var 1 ⊗ var 1))
    (var 0 ⊗ (var 0 ⊗ var 2)) refl
  where
    m : ℤ
    m = pos r

    s : ℤ
    s = Σ r u

    term : (m u s : ℤ) → (m *ℤ u -ℤ s) *ℤ (m *ℤ u -ℤ s) ≡ (m *ℤ m) *ℤ (u *ℤ u) +ℤ ((neg 2 *ℤ (m *ℤ s)) *ℤ u +ℤ s *ℤ s)
    term m u s =
        solve (m ∷ u ∷ s ∷ [])
        ((var 0 ⊗ var 1 ⊖ var 2) ⊗ (var 0 ⊗ var 1 ⊖ var 2))
        ((var 0 ⊗ var 0) ⊗ (var 1 ⊗ var 1) ⊕ ((lit (neg 2) ⊗ (var 0 ⊗ var 2)) ⊗ var 1 ⊕ var 2 ⊗ var 2)) refl

pub about-means : (n r : ℕ) (x : Column)
    → Σℕ n (λ i. Σℕ r (λ j. sq (deviation r x i j))) + r * Σℕ n (λ i. sq (run_sums r x i)) ≡ r * (r * Σℕ (r * n) (λ i. sq (x i)))
unfolding run_sums
about-means n r x = ap nat_abs (
    ap₂ ◌+ℤ◌
    (Σℕ-pos n (λ i. Σℕ r (λ j. sq (deviation r x i j))) ∙ Σ-ext n (λ i. squares-of r (deviation r x i)))
    (ap (λ z. pos r *ℤ z) (squares-of n (run_sums r x)) ∙ sym (Σ-mul (pos r) n (λ i. run_sums r x i *ℤ run_sums r x i)))
    ∙ sym (Σ-add n (λ i. Σ r (λ j. deviation r x i j *ℤ deviation r x i j)) (λ i. pos r *ℤ (run_sums r x i *ℤ run_sums r x i)))
    ∙ Σ-ext n (λ i. one-run r (λ j. x (i * r + j)))
    ∙ Σ-mul (pos r) n (λ i. pos r *ℤ Σ r (λ j. x (i * r + j) *ℤ x (i * r + j)))
    ∙ ap (λ z. pos r *ℤ z) (Σ-mul (pos r) n (λ i. Σ r (λ j. x (i * r + j) *ℤ x (i * r + j)))
    ∙ ap (λ z. pos r *ℤ z) (sym (Σ-digits r n (λ i. x i *ℤ x i)) ∙ sym (squares-of (r * n) x))))

-- readings of all runs, r of each
module _ (Fs : List Factor) (r : ℕ) (some : 0 < r) (xs : List ℤ) (whole : length xs ≡ size Fs * r) where
  abbrev sums : List ℤ
  sums = run_sums_in (size Fs) r xs

  abbrev deviations : ℕ
  deviations = Σℕ (size Fs) (λ i. Σℕ r (λ j. sq (deviation r (read xs) i j)))

  sums-squared : squares_of sums ≡ Σℕ (size Fs) (λ i. sq (run_sums r (read xs) i))
  unfolding squares_of
  sums-squared = rw (sums-long (size Fs) r xs) (Σℕ-cong (size Fs) (λ i h. ap sq (sums-read (size Fs) r xs i h)))

  all-deviations : deviations + r * squares_of sums ≡ r * (r * squares_of xs)
  unfolding squares_of
  all-deviations = rw (sums-squared, whole, mul_comm (size Fs) r) (about-means (size Fs) r (read xs))

  -- "never negative": r times the one is at most r times the other, so the one is at most the other
  pub sums-least : squares_of sums ≤ r * squares_of xs
  sums-least = le_of_mul-le-mul_left {k = r} (omega (arith, all-deviations)) some

  pub deviations-are : deviations ≡ r * (r * squares_of xs - squares_of sums)
  deviations-are = omega (arith, all-deviations, mul-sub r (r * squares_of xs) (squares_of sums))

  pub within-is : within_runs Fs r (read xs) ≡ denominator Fs * (r * squares_of xs - squares_of sums)
  unfolding within_runs
  within-is = ap (λ n. denominator Fs * n) (div-eq_of_eq-mul_right some deviations-are)

  pub all-squares : Σℕ (size Fs) (numerator Fs (read sums)) + within_runs Fs r (read xs) ≡ r * denominator Fs * squares_of xs
  unfolding squared squares_of
  all-squares =
      ap₂ ◌+◌ (numerators Fs (read sums) ∙ ap (λ n. denominator Fs * n) as-list) within-is
      ∙ join (denominator Fs) (squares_of sums) (r * squares_of xs) sums-least
      ∙ (sym (mul_assoc (denominator Fs) r (squares_of xs)) ∙ ap (λ n. n * squares_of xs) (mul_comm (denominator Fs) r))
    where
      as-list : squared Fs (read sums) ≡ squares_of sums
      as-list = rw (sums-long (size Fs) r xs) refl

      join : (d a b : ℕ) → a ≤ b → d * a + d * (b - a) ≡ d * b
      join d a b h = sym (mul-add d a (b - a)) ∙ ap (λ n. d * n) (omega arith)

  pub squares-fit : {L M : ℕ} → Roomy Fs (r * L) M → AllWithin L xs → r * denominator Fs * squares_of xs ≤ M
  unfolding squares_of
  squares-fit {L} {M} room h =
      let each = Σℕ-each (length xs) (L * L) (λ i. sq (read xs i)) (λ i _. mul-le-mul (h i) (h i)) in
      le_trans (mul-le-mul_left (r * denominator Fs) each) (rw whole (rw (grouped r (denominator Fs) (size Fs) L) room.numerators))
    where
      grouped : (r d n l : ℕ) → r * d * (n * r * (l * l)) ≡ d * (n * (r * l * (r * l)))
      grouped r d n l = omega arith

pub same-weight : (Fs : List Factor) (r e : ℕ) → 0 < r → r * denominator Fs / (r * divisor* Fs e) ≡ weight* Fs e
same-weight Fs r e some =
    div-eq_of_eq-mul_right (mul-pos some (divisor*-pos Fs e)) (ap (λ n. r * n) (sym (shares Fs e)) ∙ sym (mul_assoc r (divisor* Fs e) (weight* Fs e)))
