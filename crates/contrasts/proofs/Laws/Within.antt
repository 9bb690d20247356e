-- Bounds on all values of a list.
--
--   within-upto, within-tab, within-part    for `AllWithin` it is enough to look at the places of a list; so of a table, and of a part
use Rattle.std.specs.Prelude.{List, ℕ, ◌+◌, ◌<◌, ◌≤◌, ℤ, pos, nat_abs, length}
use Rattle.std.proofs.Math.Decide.{dec_lt}
use Rattle.std.proofs.Common.{arith}
use Rattle.algebra.specs.Laws.Parts.{part}
use Rattle.algebra.proofs.Laws.Parts.{length_part, get_d_part}
use Rattle.algebra.specs.Tab.{tab}
use Rattle.algebra.specs.Laws.Tab.{length-tab, get_or-tab, get_d_past}
use Rattle.contrasts.specs.Columns.{read, AllWithin}
use Rattle.contrasts.specs.Totals.{Column}
use Rattle.contrasts.proofs.Laws.Bounds.{Within}

pub within-upto : (M : ℕ) (xs : List ℤ) → ((i : ℕ) → i < length xs → nat_abs (read xs i) ≤ M) → AllWithin M xs
within-upto M xs h i = by (dec_lt i (length xs))
  where
    by : Dec (i < length xs) → nat_abs (read xs i) ≤ M
    by (yes k) = h i k
    by (no k) = rw (get_d_past (pos 0) xs i (omega arith)) (omega arith)

pub within-tab : (n M : ℕ) (x : Column) → Within n M x → AllWithin M (tab n x)
within-tab n M x h = within-upto M (tab n x) (λ i k. let k' : i < n = rw (length-tab n x) at k in rw (get_or-tab (pos 0) n x i k') (h i k'))

pub within-part : (w start M : ℕ) (xs : List ℤ) → start + w ≤ length xs → AllWithin M xs → AllWithin M (part w start xs)
within-part w start M xs room h =
    within-upto M (part w start xs)
    (λ i k. let k' : i < w = rw (length_part w start xs room) at k in rw (get_d_part w start xs (pos 0) i k') (h (start + i)))
