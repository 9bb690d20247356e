-- The rows of the table, over any list of factors: which effects a row has, and its degrees.
--
--   row_of Fs e             the row of effect e: the set of its letters
--   degrees_of Fs w        the degrees of row w
--   row_numerator Fs x w   the numerator of row w
use Rattle.std.specs.Prelude.{cond, List, [], ◌∷◌, ℕ, ◌+◌, ◌*◌, ◌-◌, ◌/◌, ◌%◌, eqb}
use Rattle.algebra.specs.Sorted.{sum_at}
use Rattle.contrasts.specs.Factor.{Factor}
use Rattle.contrasts.specs.Totals.{Column, size, numerator}

-- V1: "There are R rows, 2 to the power k, numbered by their set of base letters." An effect uses the letters at which its digit is not 0.
unfoldable pub row_of : List Factor → ℕ → ℕ
row_of [] e = 0
row_of (F ∷ Fs) e = row_of Fs (e / F.levels) * 2 + cond (eqb (e % F.levels) 0) 0 1

-- V3, V4: "Its degrees are 2 for each letter multiplied; row 0 has 1. Two-level rows have 1 degree each." By factor: its levels less one.
unfoldable pub degrees_of : List Factor → ℕ → ℕ
degrees_of [] w = 1
degrees_of (F ∷ Fs) w = cond (eqb (w % 2) 0) 1 (F.levels - 1) * degrees_of Fs (w / 2)

-- V2: "A three-level row adds the numerators of every effect using exactly its letters." So does a two-level row, which has one effect.
abbrev pub row_numerator : List Factor → Column → ℕ → ℕ
row_numerator Fs x w = sum_at (row_of Fs) (numerator Fs x) (size Fs) w
