-- The limits that go by the plan's levels, and what is beyond a limit. A plan of other levels than two and three is refused before its
-- limits are asked.
--
--   reading_limit p     a reading's size
--   run_limit p         the size of a run sum
--   numerator_limit p   a numerator of the plan's table, or a sum of some of them
--   is_beyond limit z   refusal 12: a number beyond a limit
use Rattle.std.specs.Prelude.{Bool, cond, ℕ, ◌*◌, eqb, ltb, ℤ, nat_abs}
use Rattle.contrasts.specs.Limits.{two_reading_limit, three_reading_limit, two_numerator_limit, three_numerator_limit}
use Rattle.plan.specs.declared.types.Plan.{Plan}

-- T1: "At two levels the reading limit becomes 1,000,000 either way", and "Three-level readings keep their limit."
unfoldable pub reading_limit : Plan → ℕ
reading_limit p = cond (eqb p.levels 2) two_reading_limit three_reading_limit

-- D3.1: "run sums within r times the reading limit"
abbrev pub run_limit : Plan → ℕ
run_limit p = p.repeats * reading_limit p

-- T20: "No two-level numerator or sum of them exceeds 1,048,576,000,000,000,000."; at three levels "No numerator, and no sum of them in one
-- table, exceeds 340,122,240,000,000,000."
unfoldable pub numerator_limit : Plan → ℕ
numerator_limit p = cond (eqb p.levels 2) two_numerator_limit three_numerator_limit

-- N12: "12 with these limits": a reading, a value of a pass or a step, or an estimate's total beyond its limit either way
unfoldable pub is_beyond : ℕ → ℤ → Bool
is_beyond limit z = ltb limit (nat_abs z)
