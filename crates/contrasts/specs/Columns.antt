-- The same over columns that are lists of N values, as code holds them.
--
--   read xs              the column of a list
--   AllWithin M xs       no value of a list exceeds M in size
--   totals_of Fs xs      the N totals, that of effect e at place e
--   run_sums_in n r xs   the sums of n runs that are made r times
--   squares_of xs        the sum of the squares of a list
--   pass_of Fs f xs      the column after the pass of position f
--   passes_of Fs fs xs   after the passes of a list of positions, one after the other
--   step_of N F xs        the column of N that the step writes
--   steps_of N Fs xs      after a step for each factor, one after the other
use Rattle.std.specs.Prelude.{List, [], ◌∷◌, ℕ, ◌*◌, ◌≤◌, ℤ, pos, nat_abs, length, get_or}
use Rattle.algebra.specs.Naturals.{Σℕ}
use Rattle.algebra.specs.Tab.{tab}
use Rattle.contrasts.specs.Factor.{Factor}
use Rattle.contrasts.specs.Totals.{Column, size, total}
use Rattle.contrasts.specs.Repeats.{run_sums}
use Rattle.contrasts.specs.Passes.{pass}
use Rattle.contrasts.specs.Steps.{step}

abbrev pub read : List ℤ → Column
read xs i = get_or xs i (pos 0)

-- no value of a list exceeds M in size; a place past the end reads as 0
abbrev pub AllWithin : ℕ → List ℤ → Type 0
AllWithin M xs = (i : ℕ) → nat_abs (read xs i) ≤ M

-- T2, T10: "place e of a column of totals holds the total of effect e"
unfoldable pub totals_of : List Factor → List ℤ → List ℤ
totals_of Fs xs = tab (size Fs) (total Fs (read xs))

-- R10: the run sums of n runs, "r at a time for each run in run order"
unfoldable pub run_sums_in : ℕ → ℕ → List ℤ → List ℤ
run_sums_in n r xs = tab n (run_sums r (read xs))

-- D3.7: "the sum of all squared readings"
unfoldable pub squares_of : List ℤ → ℕ
squares_of xs = Σℕ (length xs) (λ i. nat_abs (read xs i) * nat_abs (read xs i))

-- T14: "The pass works in one column of N"
unfoldable pub pass_of : List Factor → ℕ → List ℤ → List ℤ
pass_of Fs f xs = tab (size Fs) (pass Fs f (read xs))

-- T24: "Each gets the column as the last one left it."
unfoldable pub passes_of : List Factor → List ℕ → List ℤ → List ℤ
passes_of Fs [] xs = xs
passes_of Fs (f ∷ fs) xs = passes_of Fs fs (pass_of Fs f xs)

-- T14: "the step reads one column of N and writes another"
unfoldable pub step_of : ℕ → Factor → List ℤ → List ℤ
step_of N F xs = tab N (step N F (read xs))

-- T12: "After k such steps it gives the same totals."
unfoldable pub steps_of : ℕ → List Factor → List ℤ → List ℤ
steps_of N [] xs = xs
steps_of N (F ∷ Fs) xs = steps_of N Fs (step_of N F xs)
