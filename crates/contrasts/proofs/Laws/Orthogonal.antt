-- The coefficients of any list of factors are orthogonal: two different effects' products add up to 0, and an effect's squares add up to
-- its divisor.
--
--   orthogonal    that law
use Rattle.std.specs.Prelude.{◌≡◌, cond, List, [], ◌∷◌, ℕ, ◌/◌, ◌%◌, ◌<◌, eqb, ℤ, pos, ◌*ℤ◌}
use Rattle.std.proofs.Common.{◌∙◌, ap, mod-lt}
use Rattle.std.proofs.Math.Arith.{lt-one}
use Rattle.algebra.specs.Laws.Ring.{*ℤ-interchange}
use Rattle.algebra.specs.Sum.{Σ}
use Rattle.algebra.specs.Laws.Sum.{Σ-unit, Σ-ext, Σ-mul, Σ-mul-r, Σ-split}
use Rattle.algebra.specs.Laws.Tests.{eqb-digits, cond-*ℤ-cond}
use Rattle.contrasts.specs.Factor.{Factor}
use Rattle.contrasts.specs.Totals.{size, coef*, divisor*}
use Rattle.contrasts.proofs.Laws.Digits.{rest_lt}

pub orthogonal : (Fs : List Factor) (c e : ℕ) → c < size Fs → e < size Fs
    → Σ (size Fs) (λ r. coef* Fs c r *ℤ coef* Fs e r) ≡ cond (eqb c e) (pos (divisor* Fs c)) (pos 0)
unfolding size coef* divisor*
orthogonal [] c e h k = rw (lt-one h, lt-one k) (Σ-unit (λ r. pos 1))
orthogonal (F ∷ Fs) c e h k =
    Σ-split l n (λ d q. (fc d *ℤ gc q) *ℤ (fe d *ℤ ge q))
    ∙ Σ-ext n (λ q. Σ-ext l (λ d. *ℤ-interchange (fc d) (gc q) (fe d) (ge q)) ∙ Σ-mul-r (gc q *ℤ ge q) l (λ d. fc d *ℤ fe d))
    ∙ Σ-mul (Σ l (λ d. fc d *ℤ fe d)) n (λ q. gc q *ℤ ge q)
    ∙ ap (λ z. z *ℤ Σ n (λ q. gc q *ℤ ge q)) (F.rows (c % l) (e % l) (mod-lt c F.some_level) (mod-lt e F.some_level))
    ∙ ap (λ z. cond (eqb (c % l) (e % l)) (pos (F.divisor (c % l))) (pos 0) *ℤ z)
    (orthogonal Fs (c / l) (e / l) (rest_lt F.some_level h) (rest_lt F.some_level k))
    ∙ cond-*ℤ-cond (eqb (c % l) (e % l)) (eqb (c / l) (e / l)) (pos (F.divisor (c % l))) (pos (divisor* Fs (c / l)))
    ∙ rw (← (eqb-digits l c e))
  where
    l : ℕ
    l = F.levels

    n : ℕ
    n = size Fs

    fc : ℕ → ℤ
    fc d = F.coef (c % F.levels) d

    fe : ℕ → ℤ
    fe d = F.coef (e % F.levels) d

    gc : ℕ → ℤ
    gc q = coef* Fs (c / F.levels) q

    ge : ℕ → ℤ
    ge q = coef* Fs (e / F.levels) q
