-- Runs that are made r times.
--
--   run_sums r x         the sums of r successive readings
--   deviation r x i j    r times what reading j of run i differs from the mean of the run
--   within_runs Fs r x   the numerator of the squares of readings about their run's mean
use Rattle.std.specs.Prelude.{ℕ, ◌+◌, ◌*◌, ◌/◌, List, ℤ, pos, nat_abs, ◌*ℤ◌, ◌-ℤ◌}
use Rattle.algebra.specs.Sum.{Σ}
use Rattle.algebra.specs.Naturals.{Σℕ}
use Rattle.contrasts.specs.Factor.{Factor}
use Rattle.contrasts.specs.Totals.{Column, size, denominator}

-- R10: "Readings come r at a time for each run in run order": reading j of run i stands at place i r + j
unfoldable pub run_sums : ℕ → Column → Column
run_sums r x i = Σ r (λ j. x (i * r + j))

abbrev pub deviation : ℕ → Column → ℕ → ℕ → ℤ
deviation r x i j = pos r *ℤ x (i * r + j) -ℤ run_sums r x i

-- V16: "The squares of readings about their run's mean, over the new denominator": the squares of deviations are r r times those, and the new
-- denominator is r times the old; no remainder is left (`deviations-are`)
unfoldable pub within_runs : List Factor → ℕ → Column → ℕ
within_runs Fs r x = denominator Fs * (Σℕ (size Fs) (λ i. Σℕ r (λ j. nat_abs (deviation r x i j) * nat_abs (deviation r x i j))) / r)
