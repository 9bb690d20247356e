-- The three rows of three values, and what the functions on them ask.
--
--   rows_by a b c              the sum, first minus third, and first minus twice middle plus third
--   rows_from xs i             of three readings from the place i on
--   sums_of, gaps_of, curves_of  the rows of the sums of three sets, of their gaps and of their curves
--   put_rows xs i h l m u     these, at nine places of xs from i on, h apart
--   ThreeReadings xs i        three readings from i on, such as a pass admits
--   MildRows r                rows that one pass makes
--   NinePlaces xs i h l m u   nine places of xs from i on, h apart, and rows that one pass makes
use Rattle.std.specs.Prelude.{List, ℕ, ◌+◌, ◌*◌, ◌<◌, ℤ, pos, ◌+ℤ◌, ◌-ℤ◌, ◌*ℤ◌, length, set}
use Rattle.contrasts.specs.Columns.{read, AllWithin}
use Rattle.contrasts.specs.Limits.{value_limit}
use Rattle.contrasts.proofs.Laws.Small.{Mild}
use Rattle.levels.specs.declared.triples.Rows.{Rows}

abbrev pub rows_by : ℤ → ℤ → ℤ → Rows
rows_by a b c = record { sum = a +ℤ b +ℤ c; gap = a -ℤ c; curve = a -ℤ pos 2 *ℤ b +ℤ c }

abbrev pub rows_from : List ℤ → ℕ → Rows
rows_from xs i = rows_by (read xs i) (read xs (i + 1)) (read xs (i + 2))

-- the second pass, of what the first made
abbrev pub sums_of : Rows → Rows → Rows → Rows
sums_of l m u = rows_by l.sum m.sum u.sum

abbrev pub gaps_of : Rows → Rows → Rows → Rows
gaps_of l m u = rows_by l.gap m.gap u.gap

abbrev pub curves_of : Rows → Rows → Rows → Rows
curves_of l m u = rows_by l.curve m.curve u.curve

abbrev pub put_rows : List ℤ → ℕ → ℕ → Rows → Rows → Rows → List ℤ
put_rows xs i h l m u =
    set (set (set (set (set (set (set (set (set xs
    i (sums_of l m u).sum) (i + h) (gaps_of l m u).sum) (i + 2 * h) (curves_of l m u).sum)
    (i + 3 * h) (sums_of l m u).gap) (i + 4 * h) (gaps_of l m u).gap) (i + 5 * h) (curves_of l m u).gap)
    (i + 6 * h) (sums_of l m u).curve) (i + 7 * h) (gaps_of l m u).curve) (i + 8 * h) (curves_of l m u).curve

pub record ThreeReadings (xs : List ℤ) (i : ℕ) : Type 0 where
  pub inside : i + 2 < length xs
  pub within : AllWithin value_limit xs

pub record MildRows (r : Rows) : Type 0 where
  pub sum : Mild r.sum
  pub gap : Mild r.gap
  pub curve : Mild r.curve

pub record NinePlaces (xs : List ℤ) (i h : ℕ) (l m u : Rows) : Type 0 where
  pub inside : i + 8 * h < length xs
  pub low : MildRows l
  pub middle : MildRows m
  pub high : MildRows u
