-- Lengths of slices as the code compares them.
--
--   other_slices p m n   totals and rows have other lengths than those of the plan, whether that is accepted or not
use Rattle.std.specs.Prelude.{Bool, not, ◌||◌, ℕ, eqb}
use Rattle.plan.specs.declared.types.Plan.{Plan}
use Rattle.plan.specs.Check.{run_count}
use Rattle.rows.specs.Kinds.{row_count}

unfoldable pub other_slices : Plan → ℕ → ℕ → Bool
other_slices p totals rows = not (eqb totals (run_count p)) || not (eqb rows (row_count p))
