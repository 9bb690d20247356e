-- The report's own step, over any list of factors.
--
--   sets N F        how many sets of successive values a column of N has
--   step N F x      the report's own step over it
--   steps N Fs x    a step for each factor, one after the other
use Rattle.std.specs.Prelude.{List, [], ◌∷◌, ℕ, ◌+◌, ◌*◌, ◌/◌, ◌%◌, ◌*ℤ◌}
use Rattle.algebra.specs.Sum.{Σ}
use Rattle.contrasts.specs.Factor.{Factor}
use Rattle.contrasts.specs.Totals.{Column}

-- the number of sets of successive values in a column of N
abbrev pub sets : ℕ → Factor → ℕ
sets N F = N / F.levels

-- T11: "The report's own step writes a new column: all sums first, then the differences, at three levels then the third combination."
-- Place i is combination i / sets of set i % sets.
unfoldable pub step : ℕ → Factor → Column → Column
step N F x i = Σ F.levels (λ j. F.coef (i / sets N F) j *ℤ x (i % sets N F * F.levels + j))

-- T12: "After k such steps it gives the same totals."
unfoldable pub steps : ℕ → List Factor → Column → Column
steps N [] x = x
steps N (F ∷ Fs) x = steps N Fs (step N F x)
