-- The table as numbers in slices that a program in C lends.
--
--   figure_numbers, check_numbers   the figures as 11 numbers, and the checks as 2, in the order of the slices
--   left_by answer g old             what an answer's figures are as numbers by g, or what was there before
--   wrong_room m n                  the slices for figures and checks are not 11 and 2 long
--   room_refused p                  the number of a call that has no such room
--   call_refused                    the first number that applies to a table call with such slices, 0 where the table is made
--   TableLeft m p .. n ts rs fs cs   a call whose number is m answers the number n and leaves these slices: the table of the plan p where m is 0
use Rattle.std.specs.Prelude.{Result, Ok, Err, ◌≡◌, Bool, true, not, cond, ◌||◌, List, [], ◌∷◌, ℕ, eqb, ℤ, length}
use Rattle.contrasts.specs.Columns.{totals_of}
use Rattle.plan.specs.declared.types.Plan.{Plan}
use Rattle.plan.specs.declared.refusals.Refusal as refusals
use Rattle.plan.specs.Check.{with_plan}
use Rattle.plan.specs.Outcome.{refusal, written}
use Rattle.plan.specs.Plan.{factors_of, run_sums_of}
use Rattle.anova.specs.declared.types.Figures.{Figures}
use Rattle.anova.specs.Table.{table_refused, table_figures, rows_of}

-- ---- the numbers

-- V13
abbrev pub figure_numbers : Figures → List ℕ
figure_numbers f =
    f.denominator
    ∷ f.mean.degrees
    ∷ f.mean.numerator
    ∷ f.kept.degrees
    ∷ f.kept.numerator
    ∷ f.blocks.degrees
    ∷ f.blocks.numerator
    ∷ f.error.degrees
    ∷ f.error.numerator
    ∷ f.total.degrees
    ∷ f.total.numerator
    ∷ []

abbrev pub check_numbers : Figures → List ℤ
check_numbers f = f.checks.totals ∷ f.checks.readings ∷ []

-- what a call leaves in a slice that it writes where it makes a table
abbrev pub left_by : {A : Type 0} → Result Figures refusals.Refusal → (Figures → A) → A → A
left_by (Ok f) numbers old = numbers f
left_by (Err r) numbers old = old

-- ---- what is refused

-- N11, of slices that the rules do not know
unfoldable pub wrong_room : ℕ → ℕ → Bool
wrong_room figures checks = not (eqb figures 11) || not (eqb checks 2)

-- refusal 11, after the plan's own numbers
unfoldable pub room_refused : Plan → ℕ
room_refused p = with_plan p (refusal 11 true ∷ [])

-- the table's number; without room for figures and checks refusal 11 applies too
unfoldable pub call_refused : Plan → List ℤ → List ℕ → List ℤ → List ℕ → List ℕ → List ℤ → ℕ
call_refused p readings marks totals rows figures checks =
    cond (wrong_room (length figures) (length checks)) (room_refused p) (table_refused p readings marks totals rows)

-- ---- what a call answers and leaves, by its number m

-- C1: "every public call states its result and all the slices it was handed, refusals too"; V11 to V13
module _ (m : ℕ) (p : Plan) (readings : List ℤ) (marks : List ℕ) (totals : List ℤ) (rows figures : List ℕ) (checks : List ℤ) where
  pub record TableLeft (n : ℕ) (ts : List ℤ) (rs fs : List ℕ) (cs : List ℤ) : Type 0 where
    pub number : n ≡ m
    pub totals-left : ts ≡ written m (totals_of (factors_of p) (run_sums_of p readings)) totals
    pub rows_left : rs ≡ written m (rows_of p (run_sums_of p readings)) rows
    pub figures-left : fs ≡ written m (figure_numbers (table_figures p readings marks)) figures
    pub checks-left : cs ≡ written m (check_numbers (table_figures p readings marks)) checks
