-- What the inner functions ask of the columns that they are lent.
--
--   SeveralFactors levels k xs ys    readings of a plan of two or more factors, and a column of as many places that they go to
use Rattle.std.specs.Prelude.{◌≡◌, List, ℕ, ◌≤◌, ℤ, length}
use Rattle.passes.specs.Ready.{PassReadings}

pub record SeveralFactors (levels k : ℕ) (xs ys : List ℤ) : Type 0 where
  pub several : 2 ≤ k
  pub readings : PassReadings levels k xs
  pub same : length ys ≡ length xs
