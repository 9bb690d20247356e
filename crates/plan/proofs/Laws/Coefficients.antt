-- The coefficients of two-level effects, by letters: -1 exactly where an odd number of the effect's letters are high in the run.
--
--   coef-first     k factors: the letters that any effect and any run have in common among the first k
--   coef-two       an effect of k letters: all that it has in common with the run
--   plan-coef      the coefficients of an accepted plan of two levels
--   plan-total     so a total is the sum over the runs with an even number of letters in common, less the sum over the others
--   plan-balance   of an effect but the mean the signs add up to 0
use Rattle.std.specs.Prelude.{◌≡◌, refl, Bool, true, false, cond, not, ℕ, zero, suc, ◌+◌, ◌*◌, ◌/◌, ◌%◌, ◌^◌, ◌<◌, ◌≤◌, ℤ, pos, ◌*ℤ◌, replicate}
use Rattle.std.proofs.Common.{sym, ap₂, ◌∙◌, mod-lt, zero-lt-suc, arith, ne_eqb}
use Rattle.std.proofs.Math.Path.{ap}
use Rattle.algebra.specs.Laws.Bits.{bit-zero, bit-suc}
use Rattle.algebra.specs.Naturals.{Σℕ}
use Rattle.algebra.specs.Laws.Naturals.{Σℕ-first, Σℕ-cong}
use Rattle.algebra.specs.Laws.Sum.{Σ-ext}
use Rattle.contrasts.proofs.Factors.{two}
use Rattle.contrasts.specs.Totals.{Column, coef*, total}
use Rattle.contrasts.specs.Contrast.{sign_of, contrast}
use Rattle.contrasts.proofs.Laws.Orthogonal.{orthogonal}
use Rattle.contrasts.proofs.Laws.Signed.{signed-sum}
use Rattle.words.specs.Words.{letter, odd, odd_in}
use Rattle.words.specs.Laws.Letters.{shared-first}
use Rattle.words.specs.Laws.Parity.{odd-add, odd-swap, none-odd}
use Rattle.plan.specs.declared.types.Plan.{Plan}
use Rattle.plan.specs.Check.{plan_refused}
use Rattle.plan.specs.Plan.{factors_of, runs_of}
use Rattle.plan.proofs.Laws.Accepted.{sizes}
use Rattle.plan.proofs.Laws.Sizes.{runs-two, factors-two}

-- one factor: x the effect's digit, y the run's
one : (x y : ℕ) → x < 2 → y < 2 → two.coef x y ≡ sign_of (odd (y * x))
unfolding two
one zero zero h g = refl
one zero (suc zero) h g = refl
one (suc zero) zero h g = refl
one (suc zero) (suc zero) h g = refl
one (suc (suc x)) y h g = absurd (omega (arith, h))
one zero (suc (suc y)) h g = absurd (omega (arith, g))
one (suc zero) (suc (suc y)) h g = absurd (omega (arith, g))

signs-multiply : (x y : Bool) → sign_of x *ℤ sign_of y ≡ sign_of (cond y (not x) x)
signs-multiply true true = refl
signs-multiply true false = refl
signs-multiply false true = refl
signs-multiply false false = refl

coef-first : (k e r : ℕ) → coef* (replicate k two) e r ≡ sign_of (odd (Σℕ k (λ i. letter r i * letter e i)))
unfolding coef* two Σℕ
coef-first zero e r = refl
coef-first (suc k) e r =
    ap₂ ◌*ℤ◌ (one (e % 2) (r % 2) (mod-lt e (zero-lt-suc 1)) (mod-lt r (zero-lt-suc 1))) (coef-first k (e / 2) (r / 2))
    ∙ signs-multiply (odd (r % 2 * (e % 2))) (odd (Σℕ k (λ i. letter (r / 2) i * letter (e / 2) i)))
    ∙ ap sign_of (sym (odd-add (r % 2 * (e % 2)) (Σℕ k (λ i. letter (r / 2) i * letter (e / 2) i))))
    ∙ ap (λ (n : ℕ). sign_of (odd n)) (sym split)
  where
    split : Σℕ (suc k) (λ i. letter r i * letter e i) ≡ r % 2 * (e % 2) + Σℕ k (λ i. letter (r / 2) i * letter (e / 2) i)
    split =
        Σℕ-first k (λ i. letter r i * letter e i)
        ∙ ap₂ ◌+◌ (ap₂ ◌*◌ (bit-zero r) (bit-zero e)) (Σℕ-cong k (λ i h. ap₂ ◌*◌ (bit-suc r i) (bit-suc e i)))

pub coef-two : (k e r : ℕ) → k ≤ 16 → e < 2 ^ k → coef* (replicate k two) e r ≡ sign_of (odd_in r e)
unfolding odd_in
coef-two k e r h l = coef-first k e r ∙ ap (λ (n : ℕ). sign_of (odd n)) (sym (shared-first k r e h l))

-- ---- an accepted plan of two levels

module _ (p : Plan) (ok : plan_refused p ≡ 0) (t : p.levels ≡ 2) (e : ℕ) (h : e < runs_of p) where
  pub plan-coef : (r : ℕ) → coef* (factors_of p) e r ≡ sign_of (odd_in r e)
  plan-coef r = rw (factors-two p t) (coef-two p.k e r (omega (arith, (sizes p ok).0)) (rw (runs-two p t) at h))

  pub plan-total : (x : Column) → total (factors_of p) x e ≡ contrast (runs_of p) (λ r. not (odd_in r e)) x
  unfolding total
  plan-total x = Σ-ext (runs_of p) (λ r. ap (λ (c : ℤ). x r *ℤ c) (plan-coef r)) ∙ signed-sum (runs_of p) (λ r. odd_in r e) x

-- ---- of an effect but the mean, as many runs have one sign as the other

-- the mean counts every run plus
mean-coef : (p : Plan) → plan_refused p ≡ 0 → p.levels ≡ 2 → 0 < runs_of p → (r : ℕ) → coef* (factors_of p) 0 r ≡ pos 1
mean-coef p ok t h r = plan-coef p ok t 0 h r ∙ ap sign_of (odd-swap r 0 ∙ none-odd r)

pub plan-balance : (p : Plan) → plan_refused p ≡ 0 → p.levels ≡ 2 → (e : ℕ) → e < runs_of p → (e ≡ 0 → ⊥)
    → contrast (runs_of p) (λ r. not (odd_in r e)) (λ r. pos 1) ≡ pos 0
unfolding total
plan-balance p ok t e h not-mean =
    let some : 0 < runs_of p = omega (arith, h) in
    sym (plan-total p ok t e h (λ r. pos 1))
    ∙ Σ-ext (runs_of p) (λ r. ap (λ (c : ℤ). c *ℤ coef* (factors_of p) e r) (sym (mean-coef p ok t some r)))
    ∙ orthogonal (factors_of p) 0 e some h
    ∙ rw (ne_eqb 0 e (λ z. not-mean (sym z))) refl
