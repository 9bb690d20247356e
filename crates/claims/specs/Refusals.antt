-- D1.6 to D1.8: "it refuses faulty input with one of thirteen numbers (the marks call with an empty part), and then writes nothing at all.";
-- "new numbers join demand 1's thirteen".
--
--   the_numbers                the thirteen numbers, and those that have joined them
--   OneOfTheNumbers n          a number that refuses, and so is not 0, has a place among these
--   OnPlan p                   THE CLAIM on the calls that take a plan: check, run, alias, estimate, pass, step, totals, recover, table, screen
--   OnBlockings k b column     on the blocking call
--   OnSheet sheet              on those that take a sheet: reader, marks, print
--   OnHead head                on the calls for other languages that take a plan in bytes
--   ForC                       on what the others for other languages have of their own: the table with slices for its figures, the table of a sheet,
--                              and two places, for how many lists there are and how many bytes are a sheet's plan. Else the calls on a whole plan
--                              have the numbers and columns of `OnPlan`, blockings those of `OnBlockings`, reader, marks and text those of `OnSheet`
--   Unhanded                   on all calls that hand out a table as numbers, those of `OnHead` too
use Rattle.std.specs.Prelude.{◌≡◌, List, [], ◌∷◌, ℕ, ◌≤◌, ℤ, Float, length}
use Rattle.plan.specs.declared.types.Plan.{Plan}
use Rattle.plan.specs.Check.{plan_refused}
use Rattle.plan.specs.Outcome.{place}
use Rattle.runs.specs.Run.{run_refused}
use Rattle.aliases.specs.Alias.{alias_refused}
use Rattle.blockings.specs.Blockings.{blockings_refused, blockings_column}
use Rattle.estimates.specs.Estimate.{estimate_refused}
use Rattle.yates.specs.Calls.{pass_refused, pass_column, totals_refused, totals_column}
use Rattle.recovery.specs.Calls.{recover_refused, recover_column}
use Rattle.steps.specs.Step.{step_refused, step_column}
use Rattle.anova.specs.Table.{table_refused, table_totals, table_rows}
use Rattle.screening.specs.Screening.{screen_refused, screen_totals, screen_rows}
use Rattle.sheet.specs.Sheet.{read_refused, read_column, marks_refused, marks_of}
use Rattle.printing.specs.Printed.{print_refused}
use Rattle.heads.specs.Heads.{head_refused, called, leaves}
use Rattle.facts.specs.Facts.{run_on_head, run_high, run_block, alias_on_head, alias_word, alias_turned, estimate_on_head, estimate_kind, estimate_double, blockings_count}
use Rattle.handed.specs.Sheets.{read_span}
use Rattle.figures.specs.Numbers.{call_refused, TableLeft}
use Rattle.tables.specs.Sheets.{sheet_table_refused}

-- D1.6, N14, N16 to N18, N21
abbrev pub the_numbers : List ℕ
the_numbers = 1 ∷ 2 ∷ 3 ∷ 4 ∷ 5 ∷ 6 ∷ 7 ∷ 8 ∷ 9 ∷ 10 ∷ 11 ∷ 12 ∷ 13 ∷ 14 ∷ 16 ∷ 17 ∷ 18 ∷ 21 ∷ []

abbrev pub OneOfTheNumbers : ℕ → Type 0
OneOfTheNumbers n = (n ≡ 0 → ⊥) → place the_numbers n ≤ length the_numbers

-- ---- calls that take a plan

pub record OnPlan (p : Plan) : Type 0 where
  pub check : OneOfTheNumbers (plan_refused p)
  pub run : (r : ℕ) → OneOfTheNumbers (run_refused p r)
  pub alias : (e : ℕ) → OneOfTheNumbers (alias_refused p e)
  pub estimate : (e : ℕ) (t : ℤ) → OneOfTheNumbers (estimate_refused p e t)
  pub pass : (f : ℕ) (column : List ℤ) → OneOfTheNumbers (pass_refused p f column)
  pub step : (from to : List ℤ) → OneOfTheNumbers (step_refused p from to)
  pub totals : (readings column : List ℤ) → OneOfTheNumbers (totals_refused p readings column)
  pub recover : (ts column : List ℤ) → OneOfTheNumbers (recover_refused p ts column)
  pub table : (readings : List ℤ) (marks : List ℕ) (column : List ℤ) (rows : List ℕ) → OneOfTheNumbers (table_refused p readings marks column rows)
  pub screen : (readings : List ℤ) (marks : List ℕ) (column : List ℤ) (rows : List ℕ) → OneOfTheNumbers (screen_refused p readings marks column rows)
  -- D1.8: "and then writes nothing at all": the slices at exit are those at entry
  pub pass-unwritten : (f : ℕ) (column : List ℤ) → (pass_refused p f column ≡ 0 → ⊥) → pass_column p f column ≡ column
  pub step-unwritten : (from to : List ℤ) → (step_refused p from to ≡ 0 → ⊥) → step_column p from to ≡ to
  pub totals-unwritten : (readings column : List ℤ) → (totals_refused p readings column ≡ 0 → ⊥) → totals_column p readings column ≡ column
  pub recover-unwritten : (ts column : List ℤ) → (recover_refused p ts column ≡ 0 → ⊥) → recover_column p ts column ≡ column
  pub table-unwritten : (readings : List ℤ) (marks : List ℕ) (column : List ℤ) (rows : List ℕ)
      → (table_refused p readings marks column rows ≡ 0 → ⊥)
      → (table_totals p readings marks column rows ≡ column) × (table_rows p readings marks column rows ≡ rows)
  pub screen-unwritten : (readings : List ℤ) (marks : List ℕ) (column : List ℤ) (rows : List ℕ)
      → (screen_refused p readings marks column rows ≡ 0 → ⊥)
      → (screen_totals p readings marks column rows ≡ column) × (screen_rows p readings marks column rows ≡ rows)

-- ---- the blocking call, which takes k and a number of words

pub record OnBlockings (k b : ℕ) (column : List ℕ) : Type 0 where
  pub number : OneOfTheNumbers (blockings_refused k b (length column))
  pub unwritten : (blockings_refused k b (length column) ≡ 0 → ⊥) → blockings_column k b column ≡ column

-- ---- calls that take a sheet

pub record OnSheet (sheet : List ℕ) : Type 0 where
  pub reader : (room : ℕ) → OneOfTheNumbers (read_refused sheet room)
  pub marks : OneOfTheNumbers (marks_refused sheet)
  pub print : OneOfTheNumbers (print_refused sheet)
  pub reader-unwritten : (column : List ℤ) → (read_refused sheet (length column) ≡ 0 → ⊥) → read_column sheet column ≡ column
  -- D1.7: "(the marks call with an empty part)"
  pub marks-empty : (marks_refused sheet ≡ 0 → ⊥) → marks_of sheet ≡ []

-- ---- calls for other languages that take a plan in bytes

pub record OnHead (head : List ℕ) : Type 0 where
  pub check : OneOfTheNumbers (head_refused head)
  pub run : (r : ℕ) → OneOfTheNumbers (run_on_head head r)
  pub alias : (e : ℕ) → OneOfTheNumbers (alias_on_head head e)
  pub estimate : (e : ℕ) (t : ℤ) → OneOfTheNumbers (estimate_on_head head e t)
  pub pass : (f : ℕ) (column : List ℤ) → OneOfTheNumbers (called head (λ p. pass_refused p f column))
  pub step : (from to : List ℤ) → OneOfTheNumbers (called head (λ p. step_refused p from to))
  pub totals : (readings column : List ℤ) → OneOfTheNumbers (called head (λ p. totals_refused p readings column))
  pub recover : (ts column : List ℤ) → OneOfTheNumbers (called head (λ p. recover_refused p ts column))
  pub table : (readings : List ℤ) (marks : List ℕ) (column : List ℤ) (rows : List ℕ)
      → OneOfTheNumbers (called head (λ p. table_refused p readings marks column rows))
  pub screen : (readings : List ℤ) (marks : List ℕ) (column : List ℤ) (rows : List ℕ)
      → OneOfTheNumbers (called head (λ p. screen_refused p readings marks column rows))
  -- D1.8: "and then writes nothing at all": each place at exit is that at entry
  pub run-unwritten : (r high block : ℕ) → (run_on_head head r ≡ 0 → ⊥) → (run_high head r high ≡ high) × (run_block head r block ≡ block)
  pub alias-unwritten : (e word turned : ℕ) → (alias_on_head head e ≡ 0 → ⊥) → (alias_word head e word ≡ word) × (alias_turned head e turned ≡ turned)
  pub estimate-unwritten : (e : ℕ) (t : ℤ) (kind : ℕ) (x : Float) → (estimate_on_head head e t ≡ 0 → ⊥)
      → (estimate_kind head e t kind ≡ kind) × (estimate_double head e t x ≡ x)
  pub pass-unwritten : (f : ℕ) (column : List ℤ) → (called head (λ p. pass_refused p f column) ≡ 0 → ⊥) → leaves head (λ p. pass_column p f column) column ≡ column
  pub step-unwritten : (from to : List ℤ) → (called head (λ p. step_refused p from to) ≡ 0 → ⊥) → leaves head (λ p. step_column p from to) to ≡ to
  pub totals-unwritten : (readings column : List ℤ) → (called head (λ p. totals_refused p readings column) ≡ 0 → ⊥)
      → leaves head (λ p. totals_column p readings column) column ≡ column
  pub recover-unwritten : (ts column : List ℤ) → (called head (λ p. recover_refused p ts column) ≡ 0 → ⊥)
      → leaves head (λ p. recover_column p ts column) column ≡ column

-- ---- the others for other languages

pub record ForC : Type 0 where
  pub table : (p : Plan) (readings : List ℤ) (marks : List ℕ) (totals : List ℤ) (rows figures : List ℕ) (checks : List ℤ)
      → OneOfTheNumbers (call_refused p readings marks totals rows figures checks)
  pub sheet-table : (sheet : List ℕ) (m n : ℕ) → OneOfTheNumbers (sheet_table_refused sheet m n)
  pub lists-unwritten : (k b room lists : ℕ) → (blockings_refused k b room ≡ 0 → ⊥) → blockings_count k b room lists ≡ lists
  pub span-unwritten : (sheet : List ℕ) (room span : ℕ) → (read_refused sheet room ≡ 0 → ⊥) → read_span sheet room span ≡ span

-- D1.8: whatever such a call's number m and plan p, where its answer n is not 0 all four slices are as they were
pub record Unhanded (m : ℕ) (p : Plan) (readings : List ℤ) (marks : List ℕ) (totals : List ℤ) (rows figures : List ℕ) (checks : List ℤ) : Type 0 where
  pub unwritten-all : {n : ℕ} {ts : List ℤ} {rs fs : List ℕ} {cs : List ℤ} → TableLeft m p readings marks totals rows figures checks n ts rs fs cs
      → (n ≡ 0 → ⊥) → (ts ≡ totals) × (rs ≡ rows) × (fs ≡ figures) × (cs ≡ checks)
