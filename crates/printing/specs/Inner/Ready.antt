-- What the inner functions ask.
--
--   RowsReady p rows             an accepted plan, and a numerator for each of its rows
--   SheetReady p column marks    what is known of an accepted sheet: its plan, the column that begins with its readings, and its marks
use Rattle.std.specs.Prelude.{◌≡◌, false, List, ℕ, ℤ, length, take}
use Rattle.plan.specs.declared.types.Plan.{Plan}
use Rattle.plan.specs.Check.{plan_refused}
use Rattle.plan.specs.Limits.{reading_limit}
use Rattle.plan.specs.Plan.{all_readings}
use Rattle.columns.specs.Refusals.{any_beyond}
use Rattle.rows.specs.Kinds.{rows_in, bad_marks}

pub record RowsReady (p : Plan) (rows : List ℕ) : Type 0 where
  pub plan : plan_refused p ≡ 0
  pub long : length rows ≡ rows_in p

pub record SheetReady (p : Plan) (column : List ℤ) (marks : List ℕ) : Type 0 where
  pub plan : plan_refused p ≡ 0
  pub wide : length column ≡ 1024
  pub within : any_beyond (reading_limit p) (take (all_readings p) column) ≡ false
  pub marks-long : length marks ≡ rows_in p
  pub lawful : bad_marks p marks ≡ false
