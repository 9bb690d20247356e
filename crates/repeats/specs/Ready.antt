-- What the sums of runs ask of the readings and columns that they are handed.
--
--   RunOf r i xs       readings that have those of run i, made r times
--   AllRuns r xs ys    readings of as many runs as a column has places, each made r times
use Rattle.std.specs.Prelude.{◌≡◌, List, ℕ, ◌+◌, ◌*◌, ◌≤◌, ℤ, length}

pub record RunOf (r i : ℕ) (xs : List ℤ) : Type 0 where
  pub few : r ≤ 8
  pub there : i * r + r ≤ length xs

pub record AllRuns (r : ℕ) (xs ys : List ℤ) : Type 0 where
  pub few : r ≤ 8
  pub whole : length xs ≡ length ys * r
