-- What each call promises, whole: its answer, and every slice that it was lent to write, at exit. So a program keeps the call's promise
-- where it comes to the same for every input. That these are the calls' own promises is proved by the functions of src/, each being a call.
--
--   Left, Listed, Read, Tabled, Printed    what a call leaves: an answer and a column; lists of words; a plan too; a table with totals and rows; a
--                                     text and its length
--   promised_check p                  the plan check
--   promised_run, promised_alias      the run and the alias call
--   promised_blockings                the blocking call
--   promised_pass, promised_step      the pass, and the step
--   promised_totals                   the totals of all effects
--   promised_recover                  the readings back from totals
--   promised_table                    the table
--   promised_screen                   the table of the screening profile
--   promised_estimate                 the estimate
--   promised_read sheet column        the reader
--   promised_marks sheet              the marks call, which answers with a part of the sheet alone
--   promised_print sheet text         the print call
use Rattle.std.specs.Prelude.{Bool, List, ◌++◌, ℕ, ℤ, length, drop}
use Rattle.plan.specs.declared.types.Plan.{Plan}
use Rattle.plan.specs.Check.{plan_refused}
use Rattle.plan.specs.Outcome.{Outcome, outcome}
use Rattle.runs.specs.Run.{run_refused, run_values}
use Rattle.aliases.specs.Alias.{alias_refused, alias_values}
use Rattle.blockings.specs.Blockings.{blockings_of, blockings_refused, blockings_column}
use Rattle.steps.specs.Step.{step_refused, step_column}
use Rattle.yates.specs.Calls.{pass_refused, pass_column, totals_refused, totals_column}
use Rattle.recovery.specs.Calls.{recover_refused, recover_column}
use Rattle.estimates.specs.Estimate.{Value, estimate_refused, estimate_value}
use Rattle.anova.specs.declared.types.Figures.{Figures}
use Rattle.anova.specs.Table.{table_refused, table_figures, table_totals, table_rows}
use Rattle.screening.specs.Screening.{screen_refused, screen_totals, screen_rows}
use Rattle.sheet.specs.Sheet.{read_refused, read_plan, read_column, marks_of}
use Rattle.printing.specs.Printed.{text_of}

-- ---- what calls leave

-- C1: "every public call states its result and all the slices it was handed, refusals too"
pub record Left : Type 0 where
  pub answer : Outcome Unit
  pub column : List ℤ

-- how many lists, and the column that begins with their words
pub record Listed : Type 0 where
  pub answer : Outcome ℕ
  pub column : List ℕ

pub record Read : Type 0 where
  pub answer : Outcome Unit
  pub plan : Plan
  pub column : List ℤ

pub record Tabled : Type 0 where
  pub answer : Outcome Figures
  pub totals : List ℤ
  pub rows : List ℕ

-- how many bytes the text has, and the buffer that begins with it
pub record Printed : Type 0 where
  pub count : ℕ
  pub buffer : List ℕ

-- ---- the calls

-- L3
abbrev pub promised_check : Plan → Outcome Unit
promised_check p = outcome (plan_refused p) tt

-- R7 to R9, R11, R12: the letters that are high, and the block
abbrev pub promised_run : Plan → ℕ → Outcome (ℕ × ℕ)
promised_run p r = outcome (run_refused p r) (run_values p r)

-- E8: the base word, and whether the sign turns
abbrev pub promised_alias : Plan → ℕ → Outcome (ℕ × Bool)
promised_alias p e = outcome (alias_refused p e) (alias_values p e)

-- R13 to R17
abbrev pub promised_blockings : ℕ → ℕ → List ℕ → Listed
promised_blockings k b column = record {
  answer = outcome (blockings_refused k b (length column)) (length (blockings_of k b));
  column = blockings_column k b column;
}

-- T13, T14
abbrev pub promised_pass : Plan → ℕ → List ℤ → Left
promised_pass p f column = record { answer = outcome (pass_refused p f column) tt; column = pass_column p f column }

-- T13, T14
abbrev pub promised_step : Plan → List ℤ → List ℤ → Left
promised_step p from to = record { answer = outcome (step_refused p from to) tt; column = step_column p from to }

-- T2
abbrev pub promised_totals : Plan → List ℤ → List ℤ → Left
promised_totals p readings totals = record {
  answer = outcome (totals_refused p readings totals) tt;
  column = totals_column p readings totals;
}

-- T32 to T34
abbrev pub promised_recover : Plan → List ℤ → List ℤ → Left
promised_recover p totals column = record {
  answer = outcome (recover_refused p totals column) tt;
  column = recover_column p totals column;
}

-- V11 to V13
abbrev pub promised_table : Plan → List ℤ → List ℕ → List ℤ → List ℕ → Tabled
promised_table p readings marks totals rows = record {
  answer = outcome (table_refused p readings marks totals rows) (table_figures p readings marks);
  totals = table_totals p readings marks totals rows;
  rows = table_rows p readings marks totals rows;
}

-- V21 to V23: the figures are the table call's
abbrev pub promised_screen : Plan → List ℤ → List ℕ → List ℤ → List ℕ → Tabled
promised_screen p readings marks totals rows = record {
  answer = outcome (screen_refused p readings marks totals rows) (table_figures p readings marks);
  totals = screen_totals p readings marks totals rows;
  rows = screen_rows p readings marks totals rows;
}

-- E1
abbrev pub promised_estimate : Plan → ℕ → ℤ → Outcome Value
promised_estimate p e total = outcome (estimate_refused p e total) (estimate_value p e total)

-- S9 to S11
abbrev pub promised_read : List ℕ → List ℤ → Read
promised_read sheet column = record {
  answer = outcome (read_refused sheet (length column)) tt;
  plan = read_plan sheet (length column);
  column = read_column sheet column;
}

-- S12, S13
abbrev pub promised_marks : List ℕ → List ℕ
promised_marks sheet = marks_of sheet

-- W2 to W12
abbrev pub promised_print : List ℕ → List ℕ → Printed
promised_print sheet text = record { count = length (text_of sheet); buffer = text_of sheet ++ drop (length (text_of sheet)) text }
