-- How many bytes of a sheet are its plan.
--
--   read_span sheet room old   what the reader leaves of this number in the place that it is lent
use Rattle.std.specs.Prelude.{List, ℕ}
use Rattle.plan.specs.Outcome.{written}
use Rattle.sheet.specs.Sheet.{read_refused}
use Rattle.heads.specs.Heads.{head_length}

-- S9: "The reader returns the plan": as the bytes that hold it
unfoldable pub read_span : List ℕ → ℕ → ℕ → ℕ
read_span sheet room old = written (read_refused sheet room) (head_length sheet) old
