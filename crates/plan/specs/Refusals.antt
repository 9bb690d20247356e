-- The refusals by name, and what a call answers by them.
--
--   number r              the number of r in the table of refusals
--   number_of answer      the number of an answer's refusal, 0 where nothing is refused
--   outcome_by f answer   the answer as `Outcome` has it: the values by f, or the number of the refusal
use Rattle.std.specs.Prelude.{ℕ, Result, Ok, Err}
use Rattle.plan.specs.declared.refusals.Refusal.{Refusal}
use Rattle.plan.specs.declared.refusals.Refusal.TheVariants as refusal
use Rattle.plan.specs.Outcome.{Outcome, given, refused}

-- N1 to N14, N16 to N18, N21: the table of refusals
abbrev pub number : Refusal → ℕ
number refusal.Sheet = 1
number refusal.Levels = 2
number refusal.Factors = 3
number refusal.Counts = 4
number refusal.Word = 5
number refusal.SameWord = 6
number refusal.Dependent = 7
number refusal.LostFactor = 8
number refusal.ThreeLevels = 9
number refusal.NotInPlan = 10
number refusal.Length = 11
number refusal.Beyond = 12
number refusal.Marks = 13
number refusal.NoReadings = 14
number refusal.Repeats = 16
number refusal.WordCount = 17
number refusal.Room = 18
number refusal.Meeting = 21

-- the table's number, 0 where nothing is refused
abbrev pub number_of : {A : Type 0} → Result A Refusal → ℕ
number_of (Ok v) = 0
number_of (Err r) = number r

-- F12
abbrev pub outcome_by : {A B : Type 0} → (A → B) → Result A Refusal → Outcome B
outcome_by f (Ok v) = given (f v)
outcome_by f (Err r) = refused (number r)
