-- Plans whose k factors are alike, for any factor.
--
--   size-alike          N is levels to the power k
--   spacing-alike       the values of the factor at position f lie levels to the power f apart
--   pass-alike          so its pass is the factor's at that spacing
--   denominator-alike   the denominator is the factor's to the power k
--   by_first            a product by digit, at effect 0: the number for digit 0 to the power k
--   by-fewer            j factors fewer: the product lacks that number j times
--   total_first, divisor-first
--                       where the factor's first row is all 1: the total of effect 0 is the sum, and its divisor is N
--   growth-alike        the growth of passes, by the reach of one
use Rattle.std.specs.Prelude.{◌≡◌, List, pos, nat_abs, take, replicate}
use Rattle.std.proofs.Math.Path.{refl}
use Rattle.std.proofs.Common.{sym, ◌∙◌, ap, mod-lt, arith}
use Prim.Native.Nat.{ℕ, zero, suc, ◌+◌, ◌*◌, ◌/◌, ◌%◌, ◌^◌, ◌<◌, ◌≤◌, max}
use Rattle.std.proofs.Math.Nat.{pow-zero, pow-succ', zero-mod, zero-div}
use Rattle.std.proofs.lemmas.List.{length-replicate, get_or-replicate, replicate-append-replicate}
use Rattle.algebra.specs.Sum.{Σ}
use Rattle.algebra.specs.Laws.Ring.{ℤ-*one}
use Rattle.algebra.specs.Laws.Sum.{Σ-cong, Σ-ext, Σ-const}
use Rattle.contrasts.specs.Factor.{Factor}
use Rattle.contrasts.specs.Totals.{Column, size, coef*, total, divisor*, denominator}
use Rattle.contrasts.specs.Passes.{pass_at, pass, spacing}
use Rattle.contrasts.proofs.Laws.Bounds.{growth}
use Rattle.contrasts.specs.Laws.Bounds.{reach}
use Rattle.contrasts.proofs.Laws.Divisors.{ByDigit, by-more, divisor-by}
use Rattle.contrasts.proofs.Laws.Stretches.{pass-is}

pub size-alike : (k : ℕ) (F : Factor) → size (replicate k F) ≡ F.levels ^ k
unfolding size
size-alike zero F = sym (pow-zero F.levels)
size-alike (suc k) F = rw (size-alike k F) (sym (pow-succ' F.levels k))

take-alike : (f k : ℕ) (F : Factor) → f ≤ k → take f (replicate k F) ≡ replicate f F
take-alike zero k F h = refl
take-alike (suc f) zero F h = absurd (omega arith)
take-alike (suc f) (suc k) F h = rw (take-alike f k F (omega arith))

pub spacing-alike : (k : ℕ) (F : Factor) (f : ℕ) → f < k → spacing (replicate k F) f ≡ F.levels ^ f
spacing-alike k F f h = rw (take-alike f k F (omega arith)) (size-alike f F)

pub pass-alike : (k : ℕ) (F : Factor) (f : ℕ) (x : Column) → f < k → pass (replicate k F) f x ≡ pass_at (F.levels ^ f) F x
pass-alike k F f x h =
    pass-is (replicate k F) f F x (omega (arith, length-replicate k F))
    ∙ rw (spacing-alike k F f h, get_or-replicate k f F F h)

pub denominator-alike : (k : ℕ) (F : Factor) → denominator (replicate k F) ≡ F.common ^ k
unfolding denominator
denominator-alike zero F = sym (pow-zero F.common)
denominator-alike (suc k) F = rw (denominator-alike k F) (sym (pow-succ' F.common k))

module _ {one : Factor → ℕ → ℕ} {all : List Factor → ℕ → ℕ} (by : ByDigit one all) where
  pub by_first : (k : ℕ) (F : Factor) → all (replicate k F) 0 ≡ one F 0 ^ k
  by_first zero F = by.none 0 ∙ sym (pow-zero (one F 0))
  by_first (suc k) F =
      by.first F (replicate k F) 0 ∙ rw (zero-mod F.levels, zero-div F.levels, by_first k F) (sym (pow-succ' (one F 0) k))

  pub by-fewer : (k j : ℕ) (F : Factor) (e : ℕ) → e < size (replicate k F)
      → all (replicate (k + j) F) e ≡ all (replicate k F) e * one F 0 ^ j
  by-fewer k j F e h =
      ap (λ Fs. all Fs e) (sym (replicate-append-replicate k j F))
      ∙ by-more by (replicate k F) (replicate j F) e h
      ∙ rw (by_first j F)

-- ---- effect 0

module _ (F : Factor) (ones : (j : ℕ) → j < F.levels → F.coef 0 j ≡ pos 1) where
  coef-first : (k r : ℕ) → coef* (replicate k F) 0 r ≡ pos 1
  unfolding coef*
  coef-first zero r = refl
  coef-first (suc k) r =
      rw (zero-mod F.levels, zero-div F.levels, ones (r % F.levels) (mod-lt r F.some_level), coef-first k (r / F.levels)) refl

  pub total_first : (k : ℕ) (x : Column) → total (replicate k F) x 0 ≡ Σ (size (replicate k F)) x
  unfolding total
  total_first k x = Σ-ext (size (replicate k F)) (λ r. rw (coef-first k r) (ℤ-*one (x r)))

  -- the sum of the row's squares
  first-divisor : F.divisor 0 ≡ F.levels
  first-divisor =
      ap nat_abs (sym (F.rows 0 0 F.some_level F.some_level)
      ∙ Σ-cong F.levels (λ j h. rw (ones j h) refl) ∙ Σ-const F.levels (pos 1) ∙ ℤ-*one (pos F.levels))

  pub divisor-first : (k : ℕ) → divisor* (replicate k F) 0 ≡ size (replicate k F)
  divisor-first k = by_first divisor-by k F ∙ ap (λ d. d ^ k) first-divisor ∙ sym (size-alike k F)

-- ---- growth

pub growth-alike : (k : ℕ) (F : Factor) → growth (replicate k F) ≡ max 1 (reach F) ^ k
unfolding growth
growth-alike zero F = sym (pow-zero (max 1 (reach F)))
growth-alike (suc k) F = rw (growth-alike k F) (sym (pow-succ' (max 1 (reach F)) k))
