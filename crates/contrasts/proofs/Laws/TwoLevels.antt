-- Two levels, in the words of "Totals and passes": what the general definitions come to.
--
--   sum, difference      the two rows, over any two values
--   pass-two             the pass
--   step-two             the report's step
--   divisor-two          the divisors
--   denominator-two      the common denominator
--   weight-two           denominator over divisor
--   rounds-two           the number of the check from the readings
--   check-two            the check sum
use Rattle.std.specs.Prelude.{◌≡◌, refl, [], ◌∷◌, ℕ, zero, suc, ◌+◌, ◌*◌, ◌^◌, ◌/◌, ◌%◌, ◌<◌, eqb, ℤ, pos, ◌+ℤ◌, ◌*ℤ◌, ◌-ℤ◌, replicate}
use Rattle.std.proofs.Common.{sym, ◌∙◌, ap, pow-suc, mod-lt, add-zero, arith, eqb→eq, lit<}
use Rattle.std.proofs.Math.Nat.{div_self, one-le-pow, pow-succ'}
use Rattle.algebra.specs.Laws.Ring.{one-*ℤ, *ℤ-assoc}
use Rattle.algebra.specs.Laws.Solve.{solve, var, lit, ◌⊕◌, ◌⊖◌, ◌⊗◌}
use Rattle.algebra.specs.Sum.{Σ}
use Rattle.algebra.specs.Tests.{every}
use Rattle.algebra.specs.Laws.Tests.{every-at}
use Rattle.contrasts.proofs.Factors.{two}
use Rattle.contrasts.specs.Codings.{neg}
use Rattle.contrasts.specs.Totals.{Column, size, total, divisor*, denominator, weight*}
use Rattle.contrasts.specs.Passes.{pass_at}
use Rattle.contrasts.specs.Steps.{step}
use Rattle.contrasts.specs.Checks.{check_weight, round, rounds}
use Rattle.contrasts.proofs.Laws.Replicated.{size-alike, denominator-alike}
use Rattle.contrasts.proofs.Laws.CheckSum.{check-rounds}
use Rattle.contrasts.proofs.Laws.Steps.{step_value}
use Rattle.contrasts.proofs.Laws.Stretches.{pass-value}

-- ---- the rows

module _ (y : Column) {a b : ℤ} (first : y 0 ≡ a) (second : y 1 ≡ b) where
  pub sum : Σ 2 (λ j. two.coef 0 j *ℤ y j) ≡ a +ℤ b
  unfolding two Σ
  sum =
      rw (first, second)
      (solve (a ∷ b ∷ []) (lit (pos 0) ⊕ lit (pos 1) ⊗ var 0 ⊕ lit (pos 1) ⊗ var 1) (var 0 ⊕ var 1) refl)

  pub difference : Σ 2 (λ j. two.coef 1 j *ℤ y j) ≡ a -ℤ b
  unfolding two Σ
  difference =
      rw (first, second)
      (solve (a ∷ b ∷ []) (lit (pos 0) ⊕ lit (pos 1) ⊗ var 0 ⊕ lit (neg 1) ⊗ var 1) (var 0 ⊖ var 1) refl)

-- ---- the pass

-- "The pass of a factor at two levels replaces first and second by their sum and first minus second." The place p is that of a first value:
-- it is in stretch q, at an offset i below the spacing s.
pub pass-two : (s : ℕ) (x : Column) (q i p : ℕ) → p ≡ q * (2 * s) + i → i < s
    → (pass_at s two x p ≡ x p +ℤ x (p + s))
    × (pass_at s two x (p + s) ≡ x p -ℤ x (p + s))
unfolding two
pass-two s x q i p e h = (
  ap (pass_at s two x) first ∙ pass-value s two x q i p e h 0 (lit< tt) ∙ sum (λ j. x (p + j * s)) (ap x (sym first)) (ap x (sym second)),
  ap (pass_at s two x) second ∙ pass-value s two x q i p e h 1 (lit< tt) ∙ difference (λ j. x (p + j * s)) (ap x (sym first)) (ap x (sym second)),
)
  where
    first : p ≡ p + 0 * s
    first = omega arith

    second : p + s ≡ p + 1 * s
    second = omega arith

-- ---- the report's step

-- "all sums first, then the differences": the set of places 2 q and 2 q + 1, of n sets
pub step-two : (n : ℕ) (x : Column) (q : ℕ) → q < n
    → (step (2 * n) two x q ≡ x (q * 2) +ℤ x (q * 2 + 1))
    × (step (2 * n) two x (n + q) ≡ x (q * 2) -ℤ x (q * 2 + 1))
unfolding two
step-two n x q h = (
  ap (step (2 * n) two x) sums ∙ step_value two n x 0 q h ∙ sum (λ j. x (q * 2 + j)) first refl,
  ap (step (2 * n) two x) differences ∙ step_value two n x 1 q h ∙ difference (λ j. x (q * 2 + j)) first refl,
)
  where
    sums : q ≡ 0 * n + q
    sums = omega arith

    differences : n + q ≡ 1 * n + q
    differences = omega arith

    first : x (q * 2 + 0) ≡ x (q * 2)
    first = ap x (add-zero (q * 2))

-- ---- divisors and denominator

both : (d : ℕ) → d < 2 → two.divisor d ≡ 2
unfolding two every
both d h = eqb→eq (two.divisor d) 2 (every-at 2 (λ d. eqb (two.divisor d) 2) tt d h)

-- "Divisors: 2 to the power k at two levels"
pub divisor-two : (k e : ℕ) → divisor* (replicate k two) e ≡ 2 ^ k
unfolding divisor* two
divisor-two zero e = refl
divisor-two (suc k) e = rw (both (e % 2) (mod-lt e (lit< tt)), divisor-two k (e / 2)) (sym (pow-succ' 2 k))

-- "The common denominator is 2 to the power k"
pub denominator-two : (k : ℕ) → denominator (replicate k two) ≡ 2 ^ k
unfolding two
denominator-two k = denominator-alike k two

-- so a numerator is a total squared
pub weight-two : (k e : ℕ) → weight* (replicate k two) e ≡ 1
unfolding weight*
weight-two k e = rw (denominator-two k, divisor-two k e) (div_self (one-le-pow k 2 (lit< tt)))

-- ---- the check

-- 2 times first
round-two : (x : Column) (q : ℕ) → round two x q ≡ pos 2 *ℤ x (q * 2)
unfolding round check_weight two Σ
round-two x q =
    rw (add-zero (q * 2))
    (solve (x (q * 2) ∷ x (q * 2 + 1) ∷ [])
    (lit (pos 0) ⊕ lit (pos 2) ⊗ var 0 ⊕ lit (pos 0) ⊗ var 1) (lit (pos 2) ⊗ var 0) refl)

pub rounds-two : (k : ℕ) (x : Column) → rounds (replicate k two) x ≡ pos (2 ^ k) *ℤ x 0
unfolding rounds
rounds-two zero x = sym (one-*ℤ (x 0))
rounds-two (suc k) x =
    rounds-two k (round two x)
    ∙ ap (λ z. pos (2 ^ k) *ℤ z) (round-two x 0)
    ∙ rw (pow-suc 2 k) (sym (*ℤ-assoc (pos (2 ^ k)) (pos 2) (x 0)))

-- "The check sum of the totals is N times the first reading at two levels."
pub check-two : (k : ℕ) (x : Column)
    → Σ (size (replicate k two)) (total (replicate k two) x) ≡ pos (size (replicate k two)) *ℤ x 0
unfolding two
check-two k x = check-rounds (replicate k two) x ∙ rounds-two k x ∙ rw (size-alike k two)
