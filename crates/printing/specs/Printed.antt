-- The text that is printed of a sheet.
--
--   line_of_row p marks rows w    the line of row w
--   row_lines p marks rows n       the lines of the first n rows
--   table_text p marks f rows      the text of a table with the figures f and the row numerators `rows`
--   printed n t                    the text t where the number n is 0, and else the line of the refusal
--   sheet_table sheet              the text of a sheet's table
--   longest_sheet, print_refused   the first number that applies to a sheet
--   text_of sheet                  the text of a sheet
use Rattle.std.specs.Prelude.{cond, List, [], ◌++◌, ℕ, zero, suc, eqb, ltb, length, get_or}
use Rattle.plan.specs.declared.types.Plan.{Plan}
use Rattle.plan.specs.Plan.{run_sums_of}
use Rattle.rows.specs.Kinds.{rows_in, kind_of}
use Rattle.text.specs.Text.{ascii}
use Rattle.lines.specs.Lines.{row_line, named_line, source_line, check_line}
use Rattle.fields.specs.Fields.{fields_of}
use Rattle.contents.specs.Contents.{plan_in, readings_in, marks_in}
use Rattle.sheet.specs.Sheet.{marks_refused}
use Rattle.anova.specs.declared.types.Figures.{Figures}
use Rattle.anova.specs.Table.{row_degrees, table_figures, rows_of}

-- ---- the table

-- W5 to W7; V19: the row that the block amount has left is "printed without `blocks`", since it is kept or error, with the degrees that it has left
abbrev pub line_of_row : Plan → List ℕ → List ℕ → ℕ → List ℕ
line_of_row p marks rows w = row_line w (row_degrees p w) (get_or rows w 0) (kind_of p marks w)

-- W5: "Row lines, in row order"
unfoldable pub row_lines : Plan → List ℕ → List ℕ → ℕ → List ℕ
row_lines p marks rows zero = []
row_lines p marks rows (suc w) = row_lines p marks rows w ++ line_of_row p marks rows w

-- W5, W8, W11, W12: the line `over`, the row lines, then "The `blocks`, `error` and `total` lines below them", and the line `check`
unfoldable pub table_text : Plan → List ℕ → Figures → List ℕ → List ℕ
table_text p marks f rows =
    named_line (ascii "over") f.denominator
    ++ (row_lines p marks rows (rows_in p)
    ++ (source_line (ascii "blocks") f.blocks.degrees f.blocks.numerator
    ++ (source_line (ascii "error") f.error.degrees f.error.numerator
    ++ (source_line (ascii "total") f.total.degrees f.total.numerator
    ++ check_line f.checks.totals f.checks.readings))))

-- ---- the sheet

-- W3: "any refusal prints that line alone with its number"
unfoldable pub printed : ℕ → List ℕ → List ℕ
printed n t = cond (eqb n 0) t (named_line (ascii "refused") n)

-- the table of the plan, readings and marks that the fields of the sheet hold
unfoldable pub sheet_table : List ℕ → List ℕ
sheet_table sheet =
    table_text
    (plan_in (fields_of sheet))
    (marks_in (fields_of sheet))
    (table_figures (plan_in (fields_of sheet)) (readings_in (fields_of sheet)) (marks_in (fields_of sheet)))
    (rows_of (plan_in (fields_of sheet)) (run_sums_of (plan_in (fields_of sheet)) (readings_in (fields_of sheet))))

-- W2: "Over 5,187 bytes it prints `refused 1`"
abbrev pub longest_sheet : ℕ
longest_sheet = 5187

-- W2, W3, L6: else the number is that of the sheet; there is no column that could be too narrow
unfoldable pub print_refused : List ℕ → ℕ
print_refused sheet = cond (ltb longest_sheet (length sheet)) 1 (marks_refused sheet)

-- W2 to W12
unfoldable pub text_of : List ℕ → List ℕ
text_of sheet = printed (print_refused sheet) (sheet_table sheet)
