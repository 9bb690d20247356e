-- The passes of section 5 of the rules, over any list of factors, and lists of pass calls.
--
--   spacing Fs f             how far apart the values of the factor at position f lie
--   digit_at, with_digit     a place's digit that stands for s, and the place with another digit there
--   pass_at s F x            the pass of a factor whose values lie s apart
--   pass_from, pass Fs f x   the pass of the factor at position f
--   passes Fs fs x           the passes of a list of positions, one after the other
--   hit, count k fs          how often position k is called
use Rattle.std.specs.Prelude.{cond, List, [], ◌∷◌, ℕ, zero, suc, ◌+◌, ◌*◌, ◌-◌, ◌/◌, ◌%◌, eqb, ◌*ℤ◌, take}
use Rattle.algebra.specs.Sum.{Σ}
use Rattle.contrasts.specs.Factor.{Factor}
use Rattle.contrasts.specs.Totals.{Column, size}

-- T7: "levels to the power f places apart": the product of the levels of the factors before position f
abbrev pub spacing : List Factor → ℕ → ℕ
spacing Fs f = size (take f Fs)

-- the digit of the place i that stands for s, to the base l; and the place that has the digit j there instead. Place 14 is 112 to the
-- base 3: its digit that stands for 3 is 1, and with 2 there it is 122, which is 17.
abbrev pub digit_at : ℕ → ℕ → ℕ → ℕ
digit_at s l i = i / s % l

abbrev pub with_digit : ℕ → ℕ → ℕ → ℕ → ℕ
with_digit s l j i = i - digit_at s l i * s + j * s

-- T7: "values levels to the power f places apart belong together": those s apart, s being the product of the levels of the factors before
-- T5: "Results go back to the same places": the place whose digit is d gets the sum by row d. So, where p is the place of a first value
-- (`pass-two`, `pass-three`),
-- T3: "their sum and first minus second": at two levels p gets x p + x (p + s), and p + s gets x p - x (p + s)
-- T4: "their sum, first minus third, and first minus twice middle plus third": at three levels
--       p         gets x p + x (p + s) + x (p + 2 s),
--       p + s     gets x p - x (p + 2 s), and
--       p + 2 s   gets x p - 2 x (p + s) + x (p + 2 s)
unfoldable pub pass_at : ℕ → Factor → Column → Column
pass_at s F x i = Σ F.levels (λ j. F.coef (digit_at s F.levels i) j *ℤ x (with_digit s F.levels j i))

-- the pass of the factor at position f, where the first factor's values lie s apart; where there is no such factor, the column as it was
unfoldable pub pass_from : ℕ → List Factor → ℕ → Column → Column
pass_from s [] f x = x
pass_from s (F ∷ Fs) zero x = pass_at s F x
pass_from s (F ∷ Fs) (suc f) x = pass_from (s * F.levels) Fs f x

-- T6: "For the factor at position f (A is 0)"
abbrev pub pass : List Factor → ℕ → Column → Column
pass Fs f x = pass_from 1 Fs f x

-- T24: "Each gets the column as the last one left it."
unfoldable pub passes : List Factor → List ℕ → Column → Column
passes Fs [] x = x
passes Fs (f ∷ fs) x = passes Fs fs (pass Fs f x)

-- 1 where two positions are one, and else 0
abbrev pub hit : ℕ → ℕ → ℕ
hit k f = cond (eqb k f) 1 0

-- D3.2: how often position k is called; a list of calls names each factor once where this is 1 for each of them
unfoldable pub count : ℕ → List ℕ → ℕ
count k [] = 0
count k (f ∷ fs) = hit k f + count k fs
