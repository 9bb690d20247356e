-- The state of the loops over the totals: what they hold after e of them. The sums of the four kinds are each held in two parts, to which
-- effects are added in turn.
--
--   code_at kinds w                the number of the kind of row w
--   place_of kind half             where the first part of a kind's sums stands, 0, or the second, 1
--   plus_at xs i n                n is added at place i
--   brought parts place n         a numerator is added at a place, and a degree at the next
--   two_parts parts place         what both parts of a sum hold, the first of which stands at a place
--   sum_in parts i c              the sum of the kind c: of numerators for i = 0, of degrees for i = 1
--   held_in parts s               all sums that the parts hold, with the sum of the totals
--   zeros n                       a column of n zeros
--   Held                          what a loop holds: rows, parts of the sums, and the sum of the totals
--   begun r                       before the first total
--   square_at ts i                a total squared
--   numerator_by ts weights i     and times its weight
--   turn_two, turn_three          what one effect changes, at two levels and at three
--   course_two, course_three      what the loop holds after e totals
--   Holding h rows parts s        the variables of a loop hold h
--   RunningTwo, RunningThree      the invariants of the loops
use Rattle.std.specs.Prelude.{◌≡◌, List, ℕ, zero, suc, ◌+◌, ◌*◌, ◌%◌, ◌≤◌, ℤ, pos, nat_abs, ◌+ℤ◌, length, get_or, set, replicate}
use Rattle.algebra.specs.Tab.{tab}
use Rattle.contrasts.specs.Columns.{read}
use Rattle.rows.specs.Kinds.{Kind, kept_row, code_of}
use Rattle.walks.specs.declared.types.Sums.{Sums}

-- ---- the sums

abbrev pub code_at : List Kind → ℕ → ℕ
code_at kinds w = code_of (get_or kinds w kept_row)

abbrev pub place_of : ℕ → ℕ → ℕ
place_of kind half = 4 * kind + 2 * half

unfoldable pub plus_at : List ℕ → ℕ → ℕ → List ℕ
plus_at xs i n = set xs i (get_or xs i 0 + n)

unfoldable pub brought : List ℕ → ℕ → ℕ → List ℕ
brought parts place n = plus_at (plus_at parts place n) (place + 1) 1

abbrev pub two_parts : List ℕ → ℕ → ℕ
two_parts parts place = get_or parts place 0 + get_or parts (place + 2) 0

abbrev pub sum_in : List ℕ → ℕ → ℕ → ℕ
sum_in parts i c = two_parts parts (i + 4 * c)

unfoldable pub held_in : List ℕ → ℤ → Sums
held_in parts s = record {
  numerators = tab 4 (sum_in parts 0);
  degrees = tab 4 (sum_in parts 1);
  totals = s;
}

-- ---- the loops, by the lists that they are handed

unfoldable pub zeros : ℕ → List ℕ
zeros n = tab n (λ w. 0)

pub record Held : Type 0 where
  pub rows : List ℕ
  pub parts : List ℕ
  pub sum : ℤ

abbrev pub begun : ℕ → Held
begun r = record { rows = zeros r; parts = replicate 16 0; sum = pos 0 }

abbrev pub square_at : List ℤ → ℕ → ℕ
square_at ts i = nat_abs (read ts i) * nat_abs (read ts i)

abbrev pub numerator_by : List ℤ → List ℕ → ℕ → ℕ
numerator_by ts weights i = nat_abs (read ts i) * nat_abs (read ts i) * get_or weights i 0

-- as `bring_two` promises it: the row of the effect's own number is set
abbrev pub turn_two : List ℤ → List Kind → ℕ → Held → Held
turn_two ts kinds e h = record {
  rows = set h.rows e (square_at ts e);
  parts = brought h.parts (place_of (code_at kinds e) (e % 2)) (square_at ts e);
  sum = h.sum +ℤ read ts e;
}

-- as `bring_three` promises it: the numerator is added to the effect's row
abbrev pub turn_three : List ℤ → List ℕ → List ℕ → List Kind → ℕ → Held → Held
turn_three ts effects weights kinds e h = record {
  rows = plus_at h.rows (get_or effects e 0) (numerator_by ts weights e);
  parts = brought h.parts (place_of (code_at kinds (get_or effects e 0)) (e % 2)) (numerator_by ts weights e);
  sum = h.sum +ℤ read ts e;
}

unfoldable pub course_two : List ℤ → List Kind → ℕ → ℕ → Held
course_two ts kinds r zero = begun r
course_two ts kinds r (suc e) = turn_two ts kinds e (course_two ts kinds r e)

unfoldable pub course_three : List ℤ → List ℕ → List ℕ → List Kind → ℕ → ℕ → Held
course_three ts effects weights kinds r zero = begun r
course_three ts effects weights kinds r (suc e) = turn_three ts effects weights kinds e (course_three ts effects weights kinds r e)

-- ---- the variables of a loop

pub record Holding (h : Held) (rows parts : List ℕ) (s : ℤ) : Type 0 where
  pub rows_are : rows ≡ h.rows
  pub parts_are : parts ≡ h.parts
  pub sum_is : s ≡ h.sum

-- the invariants of the loops: after e totals they hold just that. At two levels a turn is two effects
pub record RunningTwo (ts : List ℤ) (kinds : List Kind) (r e : ℕ) (rows parts : List ℕ) (s : ℤ) : Type 0 where
  pub upto : e ≤ length ts
  pub pairs : ℕ
  pub in_pairs : e ≡ 2 * pairs
  pub holding : Holding (course_two ts kinds r e) rows parts s

pub record RunningThree (ts : List ℤ) (effects weights : List ℕ) (kinds : List Kind) (r e : ℕ) (rows parts : List ℕ) (s : ℤ) : Type 0 where
  pub upto : e ≤ length ts
  pub holding : Holding (course_three ts effects weights kinds r e) rows parts s
