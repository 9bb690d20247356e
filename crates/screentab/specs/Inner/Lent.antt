-- The columns that are lent to the screening call, and its number of a sheet that the reader accepts.
--
--   ColumnReady p column     an accepted plan, and a column that begins with its readings
--   accepted_refused sheet   the screening call's number of an accepted sheet, and 0 of others
use Rattle.std.specs.Prelude.{◌≡◌, cond, List, ℕ, eqb, ℤ, length}
use Rattle.plan.specs.declared.types.Plan.{Plan}
use Rattle.plan.specs.Check.{plan_refused}
use Rattle.sheet.specs.Sheet.{marks_refused}
use Rattle.screentab.specs.Screened.{screen_number}

pub record ColumnReady (p : Plan) (column : List ℤ) : Type 0 where
  pub plan : plan_refused p ≡ 0
  pub wide : length column ≡ 1024

unfoldable pub accepted_refused : List ℕ → ℕ
accepted_refused sheet = cond (eqb (marks_refused sheet) 0) (screen_number sheet) 0
