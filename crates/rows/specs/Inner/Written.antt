-- What the inner functions ask of marks, and what they leave in a list of kinds.
--
--   any_over marks            a mark is over 1
--   with_marks marks kinds    the rows that have a mark go by it
--   with_blocks words kinds    the combinations of one or more of the words are blocks
use Rattle.std.specs.Prelude.{Bool, cond, List, ℕ, ltb, length, get_or}
use Rattle.algebra.specs.Search.{some}
use Rattle.algebra.specs.Tab.{tab}
use Rattle.plan.specs.Plan.{combines_to}
use Rattle.rows.specs.Kinds.{Kind, blocks_row, kept_row, kind_by_mark}

unfoldable pub any_over : List ℕ → Bool
any_over marks = some (length marks) (λ w. ltb 1 (get_or marks w 0))

unfoldable pub with_marks : List ℕ → List Kind → List Kind
with_marks marks kinds = tab (length kinds) (λ w. cond (ltb w (length marks)) (kind_by_mark (get_or marks w 0)) (get_or kinds w kept_row))

unfoldable pub with_blocks : List ℕ → List Kind → List Kind
with_blocks words kinds = tab (length kinds) (λ w. cond (combines_to w words) blocks_row (get_or kinds w kept_row))
