-- The two rows of two values, and what the functions on them ask.
--
--   rows_by a b              the sum, and first minus second
--   rows_from xs i           of two readings from the place i on
--   sums_of, gaps_of        the rows of the sums of two pairs, and of their gaps
--   put_rows xs i h l u     these, at four places of xs from i on, h apart
--   TwoReadings xs i        two readings from i on, such as a pass admits
--   MildRows r              rows that one pass makes
--   FourPlaces xs i h l u   four places of xs from i on, h apart, and rows that one pass makes
use Rattle.std.specs.Prelude.{List, ℕ, ◌+◌, ◌*◌, ◌<◌, ℤ, ◌+ℤ◌, ◌-ℤ◌, length, set}
use Rattle.contrasts.specs.Columns.{read, AllWithin}
use Rattle.contrasts.specs.Limits.{value_limit}
use Rattle.contrasts.proofs.Laws.Small.{Mild}
use Rattle.levels.specs.declared.pairs.Rows.{Rows}

abbrev pub rows_by : ℤ → ℤ → Rows
rows_by a b = record { sum = a +ℤ b; gap = a -ℤ b }

abbrev pub rows_from : List ℤ → ℕ → Rows
rows_from xs i = rows_by (read xs i) (read xs (i + 1))

-- the second pass, of what the first made
abbrev pub sums_of : Rows → Rows → Rows
sums_of l u = rows_by l.sum u.sum

abbrev pub gaps_of : Rows → Rows → Rows
gaps_of l u = rows_by l.gap u.gap

abbrev pub put_rows : List ℤ → ℕ → ℕ → Rows → Rows → List ℤ
put_rows xs i h l u =
    set (set (set (set xs
    i (sums_of l u).sum) (i + h) (gaps_of l u).sum)
    (i + 2 * h) (sums_of l u).gap) (i + 3 * h) (gaps_of l u).gap

pub record TwoReadings (xs : List ℤ) (i : ℕ) : Type 0 where
  pub inside : i + 1 < length xs
  pub within : AllWithin value_limit xs

pub record MildRows (r : Rows) : Type 0 where
  pub sum : Mild r.sum
  pub gap : Mild r.gap

pub record FourPlaces (xs : List ℤ) (i h : ℕ) (l u : Rows) : Type 0 where
  pub inside : i + 3 * h < length xs
  pub low : MildRows l
  pub high : MildRows u
