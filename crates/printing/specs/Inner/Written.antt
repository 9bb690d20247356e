-- What the inner functions write: the loop over the rows, by the numbers that it has at hand, and the text of a table.
--
--   degrees_by levels w            the degrees of row w, by the rules' wording
--   degrees_left levels used w     what it has left of them, where `used` is the row of the letters that a three-level block word uses, and 0 without one
--   rows_by levels used kinds rows n    the lines of the first n rows
--   made_text p readings marks     the text of the table of a plan's readings
--   answer_text p readings marks totals rows   that text, or the line of the refusal, as the table call answers
use Rattle.std.specs.Prelude.{cond, List, [], ◌++◌, ℕ, zero, suc, ◌-◌, ◌^◌, eqb, ℤ, get_or}
use Rattle.plan.specs.declared.types.Plan.{Plan}
use Rattle.plan.specs.Plan.{run_sums_of}
use Rattle.words.specs.Words.{letters}
use Rattle.rows.specs.Kinds.{Kind, kept_row}
use Rattle.lines.specs.Lines.{row_line}
use Rattle.anova.specs.Table.{table_refused, table_figures, rows_of}
use Rattle.printing.specs.Printed.{table_text, printed}

-- ---- the rows

-- "Its degrees are 2 for each letter multiplied; row 0 has 1. Two-level rows have 1 degree each."
unfoldable pub degrees_by : ℕ → ℕ → ℕ
degrees_by levels w = cond (eqb levels 2) 1 (2 ^ letters w)

-- "It leaves the row of the letters used, with 2 degrees"
unfoldable pub degrees_left : ℕ → ℕ → ℕ → ℕ
degrees_left levels used w = degrees_by levels w - cond (eqb used 0) 0 (cond (eqb w used) 2 0)

unfoldable pub rows_by : ℕ → ℕ → List Kind → List ℕ → ℕ → List ℕ
rows_by levels used kinds rows zero = []
rows_by levels used kinds rows (suc w) = rows_by levels used kinds rows w ++ row_line w (degrees_left levels used w) (get_or rows w 0) (get_or kinds w kept_row)

-- ---- the table

abbrev pub made_text : Plan → List ℤ → List ℕ → List ℕ
made_text p readings marks = table_text p marks (table_figures p readings marks) (rows_of p (run_sums_of p readings))

abbrev pub answer_text : Plan → List ℤ → List ℕ → List ℤ → List ℕ → List ℕ
answer_text p readings marks totals rows = printed (table_refused p readings marks totals rows) (made_text p readings marks)
