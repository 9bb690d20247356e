-- Divisors and weights, factor by factor.
--
--   divisor-pos, divisor*-pos    no divisor is 0
--   shares                       divisor times weight is the denominator, for every effect
--   denominator-pos, weight-pos  neither the denominator nor a weight is 0
--   weight-nil, weight-cons      the weight, by the lowest digit
--   weight-le                    a weight is at most the denominator
--   ByDigit one all              all is the product of one number for each factor, by the effect's digit
--   divisor-by, weight-by        so is the divisor, and so the weight
--   by-digit                     such a product, by a lowest digit and the rest
--   by-more                      factors added behind: their product for effect 0 is multiplied on
use Rattle.std.specs.Prelude.{◌≡◌, refl, ℕ, ◌+◌, ◌*◌, ◌/◌, ◌%◌, ◌<◌, ◌≤◌}
use Rattle.std.proofs.Math.Path.{sym, ap}
use Rattle.std.proofs.Common.{◌∙◌, mul_comm, mod-lt, mul-pos, mul_assoc, one-mul, div-le_self, lit<}
use mathlib.Core.List.{List, [], ◌∷◌, ◌++◌}
use Rattle.std.proofs.Math.Nat.{mul-mul-mul_comm, div-eq_of_eq-mul_right}
use Rattle.std.proofs.Math.Arith.{lt-one, digits_div, digits_mod}
use Rattle.algebra.specs.Laws.Products.{factor-pos}
use Rattle.contrasts.specs.Factor.{Factor, weight}
use Rattle.contrasts.specs.Totals.{size, divisor*, denominator, weight*}
use Rattle.contrasts.proofs.Laws.Digits.{rest_lt}

pub divisor-pos : (F : Factor) (d : ℕ) → d < F.levels → 0 < F.divisor d
divisor-pos F d h = factor-pos (F.divisor d) (weight F d) F.common (F.divides d h) F.some-common

pub divisor*-pos : (Fs : List Factor) (e : ℕ) → 0 < divisor* Fs e
unfolding divisor*
divisor*-pos [] e = lit< tt
divisor*-pos (F ∷ Fs) e = mul-pos (divisor-pos F (e % F.levels) (mod-lt e F.some_level)) (divisor*-pos Fs (e / F.levels))

times : (a b c d p q : ℕ) → a * b ≡ p → c * d ≡ q → a * c * (b * d) ≡ p * q
times a b c d p q e f = mul-mul-mul_comm a c b d ∙ rw (e, f)

-- where the other factors' divisor and weight share the denominator, so do all factors', and the weight is the product
module _ (F : Factor) (Fs : List Factor) (e : ℕ) (h : divisor* Fs (e / F.levels) * weight* Fs (e / F.levels) ≡ denominator Fs) where
  product : divisor* (F ∷ Fs) e * (weight F (e % F.levels) * weight* Fs (e / F.levels)) ≡ denominator (F ∷ Fs)
  unfolding denominator divisor*
  product =
      times (F.divisor (e % F.levels)) (weight F (e % F.levels)) (divisor* Fs (e / F.levels)) (weight* Fs (e / F.levels))
      F.common (denominator Fs) (F.divides (e % F.levels) (mod-lt e F.some_level)) h

  quotient : weight* (F ∷ Fs) e ≡ weight F (e % F.levels) * weight* Fs (e / F.levels)
  unfolding weight*
  quotient = div-eq_of_eq-mul_right (divisor*-pos (F ∷ Fs) e) (sym product)

pub shares : (Fs : List Factor) (e : ℕ) → divisor* Fs e * weight* Fs e ≡ denominator Fs
unfolding divisor* denominator weight*
shares [] e = refl
shares (F ∷ Fs) e =
    ap (λ w. divisor* (F ∷ Fs) e * w) (quotient F Fs e (shares Fs (e / F.levels))) ∙ product F Fs e (shares Fs (e / F.levels))

pub denominator-pos : (Fs : List Factor) → 0 < denominator Fs
unfolding denominator
denominator-pos [] = lit< tt
denominator-pos (F ∷ Fs) = mul-pos F.some-common (denominator-pos Fs)

pub weight-pos : (Fs : List Factor) (e : ℕ) → 0 < weight* Fs e
weight-pos Fs e =
    factor-pos (weight* Fs e) (divisor* Fs e) (denominator Fs) (mul_comm (weight* Fs e) (divisor* Fs e) ∙ shares Fs e) (denominator-pos Fs)

pub weight-nil : (e : ℕ) → weight* [] e ≡ 1
unfolding divisor* denominator weight*
weight-nil e = refl

pub weight-cons : (F : Factor) (Fs : List Factor) (e : ℕ)
    → weight* (F ∷ Fs) e ≡ weight F (e % F.levels) * weight* Fs (e / F.levels)
weight-cons F Fs e = quotient F Fs e (shares Fs (e / F.levels))

pub weight-le : (Fs : List Factor) (e : ℕ) → weight* Fs e ≤ denominator Fs
unfolding weight*
weight-le Fs e = div-le_self (denominator Fs) (divisor* Fs e)

-- ---- products by digit

pub record ByDigit (one : Factor → ℕ → ℕ) (all : List Factor → ℕ → ℕ) : Type 0 where
  pub none : (e : ℕ) → all [] e ≡ 1
  pub first : (F : Factor) (Fs : List Factor) (e : ℕ) → all (F ∷ Fs) e ≡ one F (e % F.levels) * all Fs (e / F.levels)

pub divisor-by : ByDigit (λ F d. F.divisor d) divisor*
unfolding divisor*
divisor-by = record { none = λ e. refl; first = λ F Fs e. refl }

pub weight-by : ByDigit weight weight*
weight-by = record { none = weight-nil; first = weight-cons }

module _ {one : Factor → ℕ → ℕ} {all : List Factor → ℕ → ℕ} (by : ByDigit one all) where
  pub by-digit : (F : Factor) (Fs : List Factor) (q d : ℕ) → d < F.levels → all (F ∷ Fs) (q * F.levels + d) ≡ one F d * all Fs q
  by-digit F Fs q d h = by.first F Fs (q * F.levels + d) ∙ rw (digits_mod q h, digits_div q h)

  pub by-more : (Fs Gs : List Factor) (e : ℕ) → e < size Fs → all (Fs ++ Gs) e ≡ all Fs e * all Gs 0
  unfolding size
  by-more [] Gs e h = rw (lt-one h, by.none 0) (sym (one-mul (all Gs 0)))
  by-more (F ∷ Fs) Gs e h =
      by.first F (Fs ++ Gs) e
      ∙ ap (λ z. one F (e % F.levels) * z) (by-more Fs Gs (e / F.levels) (rest_lt F.some_level h))
      ∙ sym (mul_assoc (one F (e % F.levels)) (all Fs (e / F.levels)) (all Gs 0))
      ∙ ap (λ z. z * all Gs 0) (sym (by.first F Fs e))
