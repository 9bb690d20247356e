-- Tests that are computed: a table's rule is one test of the whole table.
--
--   every n p    the test p passes at each number below n
--   eq_z a b     the integers a and b are equal
--   differ a b   one of the tests a and b passes, and not both
use Rattle.std.specs.Prelude.{Bool, true, false, cond, not, ◌&&◌, ℕ, zero, suc, eqb, ℤ, pos, negsuc}

unfoldable pub every : ℕ → (ℕ → Bool) → Bool
every zero p = true
every (suc n) p = p n && every n p

abbrev pub eq_z : ℤ → ℤ → Bool
eq_z (pos a) (pos b) = eqb a b
eq_z (pos a) (negsuc b) = false
eq_z (negsuc a) (pos b) = false
eq_z (negsuc a) (negsuc b) = eqb a b

abbrev pub differ : Bool → Bool → Bool
differ a b = cond a (not b) b
