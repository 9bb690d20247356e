-- Totals, divisors and numerators, over any list of factors. The first factor, A, is the lowest digit of a run's number.
-- A column is a function of the place; a place that the plan does not have holds nothing of interest.
--
--   Column                a value at each place
--   size Fs               how many runs there are
--   coef* Fs e r          the coefficient of run r in the total of effect e
--   total Fs x e          the total of effect e
--   divisor* Fs e         the divisor of effect e
--   denominator Fs        the common denominator
--   weight* Fs e          denominator over divisor
--   numerator_of Fs e t   the numerator of effect e, where its total is t
--   numerator Fs x e      the numerator of effect e
--   squared Fs x          the sum of squared readings
use Rattle.std.specs.Prelude.{List, [], ◌∷◌, ℕ, ◌*◌, ◌/◌, ◌%◌, ℤ, pos, nat_abs, ◌*ℤ◌}
use Rattle.algebra.specs.Sum.{Σ}
use Rattle.algebra.specs.Naturals.{Σℕ}
use Rattle.contrasts.specs.Factor.{Factor}

abbrev pub Column : Type 0
Column = ℕ → ℤ

-- R1: "There are N runs: levels to the power k", or the product of the levels.
unfoldable pub size : List Factor → ℕ
size [] = 1
size (F ∷ Fs) = F.levels * size Fs

-- ---- totals

-- T9: "The coefficient is the product [..], the effect's digit choosing the row of numbers and the run's digit the number in it."
-- T10: "Effects are numbered as runs are"
unfoldable pub coef* : List Factor → ℕ → ℕ → ℤ
coef* [] e r = pos 1
coef* (F ∷ Fs) e r = F.coef (e % F.levels) (r % F.levels) *ℤ coef* Fs (e / F.levels) (r / F.levels)

-- T8: "An effect's total is the sum over runs of reading times coefficient."
unfoldable pub total : List Factor → Column → Column
total Fs x e = Σ (size Fs) (λ r. x r *ℤ coef* Fs e r)

-- ---- divisors and numerators

-- T15: "Divisors: 2 to the power k at two levels; at three levels the product of 3, 2 or 6 by digit."
unfoldable pub divisor* : List Factor → ℕ → ℕ
divisor* [] e = 1
divisor* (F ∷ Fs) e = F.divisor (e % F.levels) * divisor* Fs (e / F.levels)

-- T18: "The common denominator is 2 to the power k, or 6 to the power k."
unfoldable pub denominator : List Factor → ℕ
denominator [] = 1
denominator (F ∷ Fs) = F.common * denominator Fs

-- T19: "(denominator over divisor)"
unfoldable pub weight* : List Factor → ℕ → ℕ
weight* Fs e = denominator Fs / divisor* Fs e

-- T19: "A numerator is a total squared times (denominator over divisor)."
unfoldable pub numerator_of : List Factor → ℕ → ℤ → ℕ
numerator_of Fs e t = nat_abs t * nat_abs t * weight* Fs e

-- T19
abbrev pub numerator : List Factor → Column → ℕ → ℕ
numerator Fs x e = numerator_of Fs e (total Fs x e)

-- T28: "the sum of squared readings"
unfoldable pub squared : List Factor → Column → ℕ
squared Fs x = Σℕ (size Fs) (λ r. nat_abs (x r) * nat_abs (x r))
