-- The number of the table of a sheet.
--
--   wrong_slices p m n     the slices for totals and rows have other lengths than theirs
--   sheet_table_refused    the first number that applies to the table of a sheet
use Rattle.std.specs.Prelude.{Bool, ◌||◌, List, ℕ}
use Rattle.plan.specs.declared.types.Plan.{Plan}
use Rattle.columns.specs.Refusals.{wrong_length}
use Rattle.rows.specs.Kinds.{wrong_rows}
use Rattle.fields.specs.Fields.{fields_of}
use Rattle.contents.specs.Contents.{plan_in}
use Rattle.sheet.specs.Sheet.{sheet_refused}

-- N11: totals or rows of other lengths than N and R
unfoldable pub wrong_slices : Plan → ℕ → ℕ → Bool
wrong_slices p totals rows = wrong_length p totals || wrong_rows p rows

-- L5, L12: the numbers of a sheet, with 11 for these slices too
unfoldable pub sheet_table_refused : List ℕ → ℕ → ℕ → ℕ
sheet_table_refused sheet totals rows = sheet_refused (fields_of sheet) (wrong_slices (plan_in (fields_of sheet)) totals rows)
