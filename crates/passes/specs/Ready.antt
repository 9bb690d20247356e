-- What the passes ask of the columns that they are lent. What they leave is `pass_over` and `totals_of` of `contrasts`.
--
--   Stretch levels h xs             one stretch of a factor whose values lie h apart, with room for one more pass
--   Stretches levels h xs           a column of one or more such stretches
--   PassReadings levels k xs        readings or run sums of a plan of k factors, within a limit that leaves room for all passes
--   RunReadings levels k r xs ys    readings of a plan of k factors whose runs are made r times, and a column with a place for each run
use Rattle.std.specs.Prelude.{◌≡◌, List, ℕ, ◌*◌, ◌<◌, ◌≤◌, ◌^◌, ℤ, length, replicate}
use Rattle.contrasts.specs.Columns.{AllWithin}
use Rattle.contrasts.proofs.Factors.{of_levels}
use Rattle.contrasts.proofs.Laws.Limits.{Passable}
use Rattle.contrasts.proofs.Laws.Small.{mild_limit}

pub record Stretch (levels h : ℕ) (xs : List ℤ) : Type 0 where
  pub kind : (of_levels levels).levels ≡ levels
  pub some : 0 < h
  pub whole : length xs ≡ levels * h
  pub within : AllWithin mild_limit xs

pub record Stretches (levels h : ℕ) (xs : List ℤ) : Type 0 where
  pub kind : (of_levels levels).levels ≡ levels
  pub some : 0 < h
  pub count : ℕ
  pub more : 0 < count
  pub whole : length xs ≡ count * (levels * h)
  pub within : AllWithin mild_limit xs

pub record PassReadings (levels k : ℕ) (xs : List ℤ) : Type 0 where
  pub kind : (of_levels levels).levels ≡ levels
  pub limit : ℕ
  pub passable : Passable (replicate k (of_levels levels)) limit
  pub whole : length xs ≡ levels ^ k
  pub within : AllWithin limit xs

pub record RunReadings (levels k r : ℕ) (xs ys : List ℤ) : Type 0 where
  pub kind : (of_levels levels).levels ≡ levels
  pub limit : ℕ
  pub passable : Passable (replicate k (of_levels levels)) (r * limit)
  pub few : r ≤ 8
  pub whole : length ys ≡ levels ^ k
  pub all : length xs ≡ length ys * r
  pub within : AllWithin limit xs
