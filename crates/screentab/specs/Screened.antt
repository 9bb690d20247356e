-- The text that the program prints of a sheet: that of the printing call; but where the screening call refuses what that call prints a table
-- of, the line of this refusal.
--
--   lent_refused p readings marks   the screening call's number, where the columns that it is lent are as long as it asks
--   screen_number sheet             that of the plan, readings and marks that the fields of a sheet hold
--   screened_refused sheet          the number of a sheet: the printing call's, and where it is 0 the screening call's
--   screened_text sheet             the text of a sheet
use Rattle.std.specs.Prelude.{cond, List, ℕ, eqb, ℤ, pos, replicate}
use Rattle.plan.specs.declared.types.Plan.{Plan}
use Rattle.plan.specs.Plan.{runs_of}
use Rattle.rows.specs.Kinds.{rows_in}
use Rattle.fields.specs.Fields.{fields_of}
use Rattle.contents.specs.Contents.{plan_in, readings_in, marks_in}
use Rattle.screening.specs.Screening.{screen_refused}
use Rattle.printing.specs.Printed.{printed, sheet_table, print_refused}

-- ---- the number

-- L14: totals and rows have N and R places, whatever stands in them
abbrev pub lent_refused : Plan → List ℤ → List ℕ → ℕ
lent_refused p readings marks = screen_refused p readings marks (replicate (runs_of p) (pos 0)) (replicate (rows_in p) 0)

unfoldable pub screen_number : List ℕ → ℕ
screen_number sheet = lent_refused (plan_in (fields_of sheet)) (readings_in (fields_of sheet)) (marks_in (fields_of sheet))

-- what `factab` refuses is refused with the same number, also a sheet over 5,187 bytes
unfoldable pub screened_refused : List ℕ → ℕ
screened_refused sheet = cond (eqb (print_refused sheet) 0) (screen_number sheet) (print_refused sheet)

-- ---- the text

-- W3: "any refusal prints that line alone with its number"; V23: "the table is otherwise ordinary"
unfoldable pub screened_text : List ℕ → List ℕ
screened_text sheet = printed (screened_refused sheet) (sheet_table sheet)
