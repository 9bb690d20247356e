-- What the inner functions ask of the columns that they are lent.
--
--   Sets levels n from to    two columns of n sets of successive values
use Rattle.std.specs.Prelude.{◌≡◌, List, ℕ, ◌*◌, ◌<◌, ℤ, length}
use Rattle.contrasts.specs.Columns.{AllWithin}
use Rattle.contrasts.specs.Limits.{value_limit}
use Rattle.contrasts.proofs.Factors.{of_levels}

pub record Sets (levels n : ℕ) (from to : List ℤ) : Type 0 where
  pub kind : (of_levels levels).levels ≡ levels
  pub some : 0 < n
  pub whole : length from ≡ levels * n
  pub same : length to ≡ levels * n
  pub within : AllWithin value_limit from
