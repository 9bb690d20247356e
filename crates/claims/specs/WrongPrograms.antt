-- C6 to C13: "These programs have to break their statements".
--
-- Each program that the rules name, as a definition from a call's input to its answer and the slices that it leaves, and that it does not keep
-- the call's promise (`Promised.antt`). As far as the rules' words leave it, a program is right in all else. The inputs at which they break are
-- named below; each is one that the call can be handed, and what is promised of it is computed.
--
--   PassCall, TableCall               what a pass call and a table call are, from their inputs to what they leave
--   KeepsCheck, KeepsPass, KeepsTotals, KeepsTable, KeepsEstimate, KeepsMarks, KeepsPrint
--                                     to keep a call's promise: to come to the same for every input
--   refuses_plans, refuses_tables     refuse every plan, with any numbers
--   constant_text, constant_table     print one text for every sheet, or for every sheet that is accepted
--   figures_by, constant_figures      the table call with figures of its own; with the same figures for all
--   untouched_pass, untouched_totals, untouched_table   leave what they are lent as it was
--   does_all, first_does_all n        the pass call that does all factors; the call number n of which the first does so and later ones idle
--   does_all_at_a                     the pass call that does all factors for A, and idles for others
--   after_told                        the column after a list of calls that are told their numbers
--   with_degrees, with_checks         figures with other degrees, or other check numbers
--   invented_degrees, all_to_mean     table calls with invented degrees: any numbers; all degrees for the mean
--   rows_of_kind, one_degree_each     how many rows are of a kind; the table call with 1 degree for each row
--   invented_checks                   and with one invented number for both checks
--   lost_always, lost_for_every       answer lost for every effect, or for every one that is not refused
--   empty_part                        gives an empty part for every sheet
--   four, readings, four_totals, zeros, all_kept, pooled, three_levels, three_readings, blank
--                                     the named inputs; the sheets are those of `printing/specs/Examples.antt`
--   WrongPrograms                     THE CLAIM
use Rattle.std.specs.Prelude.{◌≡◌, cond, List, [], ◌∷◌, ◌++◌, ℕ, zero, suc, ◌+◌, ◌-◌, ◌*◌, ◌<◌, eqb, ℤ, pos, length, drop, replicate}
use Rattle.algebra.specs.Naturals.{Σℕ}
use Rattle.contrasts.specs.Columns.{totals_of}
use Rattle.contrasts.specs.Codings.{neg}
use Rattle.rows.specs.Kinds.{Kind, mean_row, blocks_row, error_row, kept_row, rows_in, kind_of, same}
use Rattle.plan.specs.declared.types.Plan.{Plan}
use Rattle.plan.specs.Check.{plan_refused}
use Rattle.plan.specs.Examples.{plan}
use Rattle.plan.specs.Outcome.{Outcome, given, refused, outcome, written}
use Rattle.plan.specs.Plan.{factors_of, runs_of, all_readings}
use Rattle.yates.specs.Calls.{pass_refused, totals_refused}
use Rattle.estimates.specs.Estimate.{Value, lost, estimate_refused}
use Rattle.anova.specs.declared.types.Figures.{Figures}
use Rattle.anova.specs.Table.{table_refused, table_figures, table_totals, table_rows}
use Rattle.printing.specs.Printed.{printed, print_refused}
use Rattle.promises.specs.Promised.{Left, Tabled, Printed, promised_check, promised_pass, promised_totals, promised_table, promised_estimate, promised_marks, promised_print}
use Rattle.claims.specs.AnyOrder.{RunSums, own_pass}

-- ---- to keep a promise

-- for every list of numbers, also for such as no call can be handed; each program below breaks its promise at an input that one can be handed

abbrev pub KeepsCheck : (Plan → Outcome Unit) → Type 0
KeepsCheck program = (p : Plan) → program p ≡ promised_check p

abbrev pub PassCall : Type 0
PassCall = Plan → ℕ → List ℤ → Left

abbrev pub KeepsPass : PassCall → Type 0
KeepsPass program = (p : Plan) (f : ℕ) (column : List ℤ) → program p f column ≡ promised_pass p f column

abbrev pub KeepsTotals : (Plan → List ℤ → List ℤ → Left) → Type 0
KeepsTotals program = (p : Plan) (readings totals : List ℤ) → program p readings totals ≡ promised_totals p readings totals

abbrev pub TableCall : Type 0
TableCall = Plan → List ℤ → List ℕ → List ℤ → List ℕ → Tabled

abbrev pub KeepsTable : TableCall → Type 0
KeepsTable program =
    (p : Plan) (readings : List ℤ) (marks : List ℕ) (totals : List ℤ) (rows : List ℕ)
    → program p readings marks totals rows ≡ promised_table p readings marks totals rows

abbrev pub KeepsEstimate : (Plan → ℕ → ℤ → Outcome Value) → Type 0
KeepsEstimate program = (p : Plan) (e : ℕ) (t : ℤ) → program p e t ≡ promised_estimate p e t

abbrev pub KeepsMarks : (List ℕ → List ℕ) → Type 0
KeepsMarks program = (sheet : List ℕ) → program sheet ≡ promised_marks sheet

abbrev pub KeepsPrint : (List ℕ → List ℕ → Printed) → Type 0
KeepsPrint program = (sheet text : List ℕ) → program sheet text ≡ promised_print sheet text

-- ---- C6: "one refusing every plan": with any numbers, chosen by all that it is handed

abbrev pub refuses_plans : (Plan → ℕ) → Plan → Outcome Unit
refuses_plans number p = refused (number p)

abbrev pub refuses_tables : (Plan → List ℤ → List ℕ → List ℤ → List ℕ → ℕ) → TableCall
refuses_tables number p readings marks totals rows = record { answer = refused (number p readings marks totals rows); totals = totals; rows = rows }

-- ---- C7: "one printing a constant table"

-- one text for every sheet
abbrev pub constant_text : List ℕ → List ℕ → List ℕ → Printed
constant_text t sheet text = record { count = length t; buffer = t ++ drop (length t) text }

-- one text for every sheet that is accepted, and the lines of refusals as they should be
abbrev pub constant_table : List ℕ → List ℕ → List ℕ → Printed
constant_table t sheet text = constant_text (printed (print_refused sheet) t) sheet text

-- the table call, its figures by a program of their own
abbrev pub figures_by : (Plan → List ℤ → List ℕ → Figures) → TableCall
figures_by figures p readings marks totals rows = record {
  answer = outcome (table_refused p readings marks totals rows) (figures p readings marks);
  totals = table_totals p readings marks totals rows;
  rows = table_rows p readings marks totals rows;
}

abbrev pub constant_figures : Figures → TableCall
constant_figures f = figures_by (λ p readings marks. f)

-- ---- C8: "or leaving the column untouched"

abbrev pub untouched_pass : PassCall
untouched_pass p f column = record { answer = outcome (pass_refused p f column) tt; column = column }

abbrev pub untouched_totals : Plan → List ℤ → List ℤ → Left
untouched_totals p readings totals = record { answer = outcome (totals_refused p readings totals) tt; column = totals }

abbrev pub untouched_table : TableCall
untouched_table p readings marks totals rows = record {
  answer = outcome (table_refused p readings marks totals rows) (table_figures p readings marks);
  totals = totals;
  rows = rows;
}

-- ---- C9: "one whose first pass does all factors and whose later passes idle"

-- the totals for the pass, where the call is not refused
abbrev pub does_all : PassCall
does_all p f column = record {
  answer = outcome (pass_refused p f column) tt;
  column = written (pass_refused p f column) (totals_of (factors_of p) column) column;
}

-- a call that is told how many were before it
abbrev pub first_does_all : ℕ → PassCall
first_does_all zero = does_all
first_does_all (suc n) = untouched_pass

-- one that is not told, and takes the pass of A for the first
abbrev pub does_all_at_a : PassCall
does_all_at_a p f column = cond (eqb f 0) (does_all p f column) (untouched_pass p f column)

-- the column after a list of such calls, the first of which is number n, each on what the last one left
unfoldable pub after_told : (ℕ → PassCall) → ℕ → Plan → List ℕ → List ℤ → List ℤ
after_told program n p [] column = column
after_told program n p (f ∷ fs) column = after_told program (suc n) p fs (program n p f column).column

-- ---- C10, C11: "one with invented degrees or check numbers"

-- figures with other degrees of mean, kept effects, blocks and error
abbrev pub with_degrees : ℕ → ℕ → ℕ → ℕ → Figures → Figures
with_degrees m k b e f = record {
  denominator = f.denominator;
  mean = record { degrees = m; numerator = f.mean.numerator };
  kept = record { degrees = k; numerator = f.kept.numerator };
  blocks = record { degrees = b; numerator = f.blocks.numerator };
  error = record { degrees = e; numerator = f.error.numerator };
  total = f.total;
  checks = f.checks;
}

-- degrees that go by nothing
abbrev pub invented_degrees : ℕ → ℕ → ℕ → ℕ → TableCall
invented_degrees m k b e = figures_by (λ p readings marks. with_degrees m k b e (table_figures p readings marks))

-- degrees that add up to the total's: the mean has them all
abbrev pub all_to_mean : TableCall
all_to_mean = figures_by (λ p readings marks. with_degrees (all_readings p) 0 0 0 (table_figures p readings marks))

-- M3: 1 degree for each row, as at two levels: "Giving a main effect 1 degree at three levels."
abbrev pub rows_of_kind : Plan → List ℕ → Kind → ℕ
rows_of_kind p marks c = Σℕ (rows_in p) (λ w. cond (same (kind_of p marks w) c) 1 0)

abbrev pub one_degree_each : TableCall
one_degree_each = figures_by (λ p readings marks.
    with_degrees (rows_of_kind p marks mean_row) (rows_of_kind p marks kept_row) (rows_of_kind p marks blocks_row)
    (rows_of_kind p marks error_row + runs_of p * (p.repeats - 1))
    (table_figures p readings marks))

-- figures with other check numbers
abbrev pub with_checks : ℤ → ℤ → Figures → Figures
with_checks totals readings f = record {
  denominator = f.denominator;
  mean = f.mean;
  kept = f.kept;
  blocks = f.blocks;
  error = f.error;
  total = f.total;
  checks = record { totals = totals; readings = readings };
}

-- check numbers that go by nothing; they are equal, so that their equality does not tell
abbrev pub invented_checks : ℤ → TableCall
invented_checks c = figures_by (λ p readings marks. with_checks c c (table_figures p readings marks))

-- ---- C12, C13: "one answering lost for every effect, or an empty marks part for every sheet"

abbrev pub lost_always : Plan → ℕ → ℤ → Outcome Value
lost_always p e t = given lost

-- and what is to be refused is
abbrev pub lost_for_every : Plan → ℕ → ℤ → Outcome Value
lost_for_every p e t = outcome (estimate_refused p e t) lost

abbrev pub empty_part : List ℕ → List ℕ
empty_part sheet = []

-- ---- the named inputs

-- two factors of two levels
abbrev pub four : Plan
four = plan 2 2 [] [] []

-- X1: "Readings 3, 5, 4, 8: totals 20, -6, -4, 2", and four readings of 0
abbrev pub readings : List ℤ
readings = pos 3 ∷ pos 5 ∷ pos 4 ∷ pos 8 ∷ []

abbrev pub four_totals : List ℤ
four_totals = pos 20 ∷ neg 6 ∷ neg 4 ∷ pos 2 ∷ []

abbrev pub zeros : List ℤ
zeros = pos 0 ∷ pos 0 ∷ pos 0 ∷ pos 0 ∷ []

-- every row kept, and AB pooled as error
abbrev pub all_kept : List ℕ
all_kept = 0 ∷ 0 ∷ 0 ∷ 0 ∷ []

abbrev pub pooled : List ℕ
pooled = 0 ∷ 0 ∷ 0 ∷ 1 ∷ []

-- X2: "Three levels, 2, 5, 3": one factor
abbrev pub three_levels : Plan
three_levels = plan 3 1 [] [] []

abbrev pub three_readings : List ℤ
three_readings = pos 2 ∷ pos 5 ∷ pos 3 ∷ []

-- the buffer that the print call is lent
abbrev pub blank : List ℕ
blank = replicate 69_632 0

-- ---- the claim

-- the programs in the order of the rules' sentence, each with its words
pub record WrongPrograms : Type 0 where
  -- C6: "one refusing every plan (the table's conditions, demand 2)"
  pub refusing-plans : (number : Plan → ℕ) → KeepsCheck (refuses_plans number) → ⊥
  pub refusing-tables : (number : Plan → List ℤ → List ℕ → List ℤ → List ℕ → ℕ) → KeepsTable (refuses_tables number) → ⊥
  -- C7: "one printing a constant table"
  pub constant-text : (t : List ℕ) → KeepsPrint (constant_text t) → ⊥
  pub constant-table : (t : List ℕ) → KeepsPrint (constant_table t) → ⊥
  pub constant-figures : (f : Figures) → KeepsTable (constant_figures f) → ⊥
  -- C8: "or leaving the column untouched (demands 2 and 3)"
  pub untouched-pass : KeepsPass untouched_pass → ⊥
  pub untouched-totals : KeepsTotals untouched_totals → ⊥
  pub untouched-table : KeepsTable untouched_table → ⊥
  -- C9: "one whose first pass does all factors and whose later passes idle (each pass has its own definition above, demand 3)": its first call and
  -- each later one break the pass's promise
  pub first-does-all : KeepsPass (first_does_all 0) → ⊥
  pub later-idle : (n : ℕ) → KeepsPass (first_does_all (suc n)) → ⊥
  pub does-all-at-A : KeepsPass does_all_at_a → ⊥
  -- the calls A, B over 3, 5, 4, 8: neither "makes the pass of its own factor and no more" (`own_pass` of demand 3), though they end as the totals
  pub not-A : (first_does_all 0 four 0 readings).column ≡ own_pass four 0 readings → ⊥
  pub not-B : (first_does_all 1 four 1 four_totals).column ≡ own_pass four 1 four_totals → ⊥
  pub ends_so : after_told first_does_all 0 four (0 ∷ 1 ∷ []) readings ≡ four_totals
  -- and so does every list of calls that begins with a base factor's: its end alone does not tell
  pub ends-right : (p : Plan) → plan_refused p ≡ 0 → (column : List ℤ) → RunSums p column → (f : ℕ) → f < p.k → (fs : List ℕ)
      → after_told first_does_all 0 p (f ∷ fs) column ≡ totals_of (factors_of p) column
  -- C10, C11: "one with invented degrees or check numbers (demand 2)"
  pub invented-degrees : (m k b e : ℕ) → KeepsTable (invented_degrees m k b e) → ⊥
  pub all-to-mean : KeepsTable all_to_mean → ⊥
  pub one-degree-each : KeepsTable one_degree_each → ⊥
  pub invented-checks : (c : ℤ) → KeepsTable (invented_checks c) → ⊥
  -- C12: "one answering lost for every effect"
  pub lost-always : KeepsEstimate lost_always → ⊥
  pub lost-for-every : KeepsEstimate lost_for_every → ⊥
  -- C13: "or an empty marks part for every sheet (demand 2, by the conditions given above)"
  pub empty-part : KeepsMarks empty_part → ⊥
