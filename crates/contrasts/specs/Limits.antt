-- The limits of the rules, each named once; those that differ between the kinds of plans, once for each kind. `plan/specs/Limits.antt` gives
-- them by the plan.
--
--   two_reading_limit, three_reading_limit       a reading's size, at two levels and at three
--   two_numerator_limit, three_numerator_limit   a numerator, or a sum of some of one table
--   value_limit                                  the size of a value that a pass or a step admits
--   most_two, most_three                         how many factors a plan may have
--   most_added, most_blocks                      how many added factors and block words
--   is_repeats r, most_readings                  how often a run may be made, and how many readings there may be
use Rattle.std.specs.Prelude.{Bool, ◌||◌, ℕ, eqb}

-- T1: "At two levels the reading limit becomes 1,000,000 either way"
unfoldable pub two_reading_limit : ℕ
two_reading_limit = 1_000_000

-- T1: "Three-level readings keep their limit.", "Readings are i32 from -100,000 to 100,000."
unfoldable pub three_reading_limit : ℕ
three_reading_limit = 100_000

-- T20: "No two-level numerator or sum of them exceeds 1,048,576,000,000,000,000."
unfoldable pub two_numerator_limit : ℕ
two_numerator_limit = 1_048_576_000_000_000_000

-- T20: at three levels, "No numerator, and no sum of them in one table, exceeds 340,122,240,000,000,000."
unfoldable pub three_numerator_limit : ℕ
three_numerator_limit = 340_122_240_000_000_000

-- N12: "A pass or step, at either level count, now admits values to 1,024,000,000 either way."
unfoldable pub value_limit : ℕ
value_limit = 1_024_000_000

-- P2: "k base factors (1 to 10 at two levels, 1 to 6 at three)"
unfoldable pub most_two : ℕ
most_two = 10

-- P2
unfoldable pub most_three : ℕ
most_three = 6

-- P3: "up to 6 added factors and up to 4 block words"
abbrev pub most_added : ℕ
most_added = 6

-- P3
abbrev pub most_blocks : ℕ
most_blocks = 4

-- P12: "Each run is now made r times, 1, 2, 4 or 8"
unfoldable pub is_repeats : ℕ → Bool
is_repeats r = eqb r 1 || (eqb r 2 || (eqb r 4 || eqb r 8))

-- P13: "N times r is at most 1,024."
unfoldable pub most_readings : ℕ
most_readings = 1_024
