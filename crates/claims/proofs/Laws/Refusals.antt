-- That the claims of `Refusals.antt` hold.
--
--   known refusals                      each number of these refusals is one of the numbers
--   on-any-plan, on-any-blockings, on-any-sheet, on-any-head, for-C, unhanded    the proofs
use Rattle.std.specs.Prelude.{◌≡◌, refl, Bool, true, false, cond, ◌&&◌, List, [], ◌∷◌, ℕ, T, eqb, leb, ltb, ℤ, length}
use Rattle.std.proofs.Common.{sym, ◌∙◌, arith, eq-eqb, leb→le}
use Rattle.std.proofs.Math.Decide.{ℕ_discrete}
use Rattle.algebra.specs.Laws.Tests.{and_left, and_right}
use Rattle.plan.specs.declared.types.Plan.{Plan}
use Rattle.plan.specs.Check.{plan_refusals, plan_refused, with_plan}
use Rattle.plan.specs.Outcome.{Refusal, refusal, lowest, place, written}
use Rattle.plan.proofs.Laws.Answers.{unwritten, written_new, after-plan, plan-first}
use Rattle.columns.specs.Refusals.{columns_refused, readings_refused}
use Rattle.runs.specs.Run.{run_refusals, run_refused}
use Rattle.aliases.specs.Alias.{alias_refusals, alias_refused}
use Rattle.blockings.specs.Blockings.{blockings_refusals, blockings_refused, blockings_column}
use Rattle.estimates.specs.Estimate.{estimate_refusals, estimate_refused}
use Rattle.yates.specs.Calls.{pass_refusals, pass_refused, pass_column, totals_refusals, totals_refused, totals_column}
use Rattle.recovery.specs.Calls.{recover_refusals, recover_refused, recover_column}
use Rattle.steps.specs.Step.{step_refusals, step_refused, step_column}
use Rattle.anova.specs.Table.{table_refusals, table_refused, table_totals, table_rows}
use Rattle.screening.specs.Screening.{screen_refusals, screen_refused, screen_totals, screen_rows}
use Rattle.fields.specs.Fields.{Fields, fields_of}
use Rattle.fields.specs.Tags.{bad_fields}
use Rattle.contents.specs.Contents.{plan_in}
use Rattle.sheet.specs.Sheet.{sheet_refusals, refused_with, read_refused, read_column, marks_refused, marks_of}
use Rattle.printing.specs.Printed.{longest_sheet, print_refused}
use Rattle.heads.specs.Heads.{bad_head, head_plan, head_refusals, head_refused, called, leaves}
use Rattle.facts.specs.Facts.{run_on_head, run_high, run_block, alias_on_head, alias_word, alias_turned, estimate_on_head, estimate_kind, estimate_double, blockings_count}
use Rattle.handed.specs.Sheets.{read_span}
use Rattle.figures.specs.Numbers.{wrong_room, room_refused, call_refused}
use Rattle.tables.specs.Sheets.{wrong_slices, sheet_table_refused}
use Rattle.claims.specs.Refusals.{the_numbers, OneOfTheNumbers, OnPlan, OnBlockings, OnSheet, OnHead, ForC, Unhanded}

-- ---- the numbers

unfoldable pub known : List Refusal → Bool
known [] = true
known (refusal n holds ∷ rest) = leb (place the_numbers n) (length the_numbers) && known rest

lowest-known : (refusals : List Refusal) → T (known refusals) → OneOfTheNumbers (lowest refusals)
unfolding known
lowest-known [] t h = absurd (h refl)
lowest-known (refusal n true ∷ rest) t h =
    leb→le (place the_numbers n) (length the_numbers) (and_left (leb (place the_numbers n) (length the_numbers)) (known rest) t)
lowest-known (refusal n false ∷ rest) t h = lowest-known rest (and_right (leb (place the_numbers n) (length the_numbers)) (known rest) t) h

-- the number of a call on a plan
by-plan : (p : Plan) (further : List Refusal) → T (known further) → OneOfTheNumbers (with_plan p further)
unfolding with_plan plan_refused known
by-plan p further t = by (ℕ_discrete (plan_refused p) 0)
  where
    by : Dec (plan_refused p ≡ 0) → OneOfTheNumbers (with_plan p further)
    by (yes e) = rw (after-plan p further e) (lowest-known further t)
    by (no e) = rw (← (plan-first p further refl e)) (lowest-known (plan_refusals p) tt)

pub on-any-plan : (p : Plan) → OnPlan p
unfolding plan_refused run_refused alias_refused estimate_refused pass_refused pass_column step_column columns_refused readings_refused totals_column recover_refused recover_column table_refused table_totals table_rows screen_refused screen_totals screen_rows known
on-any-plan p =
    record {
      check = lowest-known (plan_refusals p) tt;
      run = λ r. by-plan p (run_refusals p r) tt;
      alias = λ e. by-plan p (alias_refusals p e) tt;
      estimate = λ e t. by-plan p (estimate_refusals p e t) tt;
      pass = λ f column. by-plan p (pass_refusals p f column) tt;
      step = λ from to. by-plan p (step_refusals p from to) tt;
      totals = λ readings column. by-plan p (totals_refusals p readings column) tt;
      recover = λ ts column. by-plan p (recover_refusals p ts column) tt;
      table = λ readings marks column rows. by-plan p (table_refusals p readings marks column rows) tt;
      screen = λ readings marks column rows. by-plan p (screen_refusals p readings marks column rows) tt;
      pass-unwritten = λ f column n. sym (unwritten _ _ column n);
      step-unwritten = λ from to n. sym (unwritten _ _ to n);
      totals-unwritten = λ readings column n. sym (unwritten _ _ column n);
      recover-unwritten = λ ts column n. sym (unwritten _ _ column n);
      table-unwritten = λ readings marks column rows n. (sym (unwritten _ _ column n), sym (unwritten _ _ rows n));
      screen-unwritten = λ readings marks column rows n. (sym (unwritten _ _ column n), sym (unwritten _ _ rows n));
    }

pub on-any-blockings : (k b : ℕ) (column : List ℕ) → OnBlockings k b column
unfolding blockings_refused blockings_column known
on-any-blockings k b column =
    record {
      number = lowest-known (blockings_refusals k b (length column)) tt;
      unwritten = λ n. sym (unwritten _ _ column n);
    }

of-sheet : (fs : Fields) (narrow : Bool) → OneOfTheNumbers (refused_with fs (plan_in fs) narrow)
unfolding refused_with known
of-sheet fs narrow = by (bad_fields fs)
  where
    by : (bad : Bool) → OneOfTheNumbers (cond bad 1 (with_plan (plan_in fs) (sheet_refusals fs (plan_in fs) narrow)))
    by true = λ h. omega arith
    by false = by-plan (plan_in fs) (sheet_refusals fs (plan_in fs) narrow) tt

of-print : (sheet : List ℕ) → OneOfTheNumbers (print_refused sheet)
unfolding print_refused marks_refused
of-print sheet = by (ltb longest_sheet (length sheet))
  where
    by : (long : Bool) → OneOfTheNumbers (cond long 1 (marks_refused sheet))
    by true = λ h. omega arith
    by false = of-sheet (fields_of sheet) false

pub on-any-sheet : (sheet : List ℕ) → OnSheet sheet
unfolding read_refused marks_refused read_column marks_of
on-any-sheet sheet =
    record {
      reader = λ room. of-sheet (fields_of sheet) _;
      marks = of-sheet (fields_of sheet) false;
      print = of-print sheet;
      reader-unwritten = λ column n. sym (unwritten _ _ column n);
      marks-empty = λ n. sym (unwritten _ _ [] n);
    }

-- the number of a call on the plan of a head
of-head : (head : List ℕ) → OneOfTheNumbers (head_refused head)
unfolding head_refused known
of-head head = by (bad_head (fields_of head))
  where
    by : (bad : Bool) → OneOfTheNumbers (cond bad 1 (with_plan (head_plan head) (head_refusals (fields_of head))))
    by true = λ h. omega arith
    by false = by-plan (head_plan head) (head_refusals (fields_of head)) tt

on-head : (head : List ℕ) (number : Plan → ℕ) → OneOfTheNumbers (number (head_plan head)) → OneOfTheNumbers (called head number)
unfolding called
on-head head number own = by (eqb (head_refused head) 0)
  where
    by : (z : Bool) → OneOfTheNumbers (cond z (number (head_plan head)) (head_refused head))
    by true = own
    by false = of-head head

-- what is left by a call that is refused for its head, or that its own number refuses
unled : {A : Type 0} (head : List ℕ) (number : Plan → ℕ) (made : Plan → A) (old : A)
    → (called head number ≡ 0 → ⊥) → ((number (head_plan head) ≡ 0 → ⊥) → made (head_plan head) ≡ old) → leaves head made old ≡ old
unfolding called leaves
unled head number made old h kept = by (ℕ_discrete (head_refused head) 0)
  where
    by : Dec (head_refused head ≡ 0) → written (head_refused head) (made (head_plan head)) old ≡ old
    by (yes z) = sym (written_new (head_refused head) (made (head_plan head)) old z) ∙ kept (λ d. h (rw (eq-eqb (head_refused head) 0 z) d))
    by (no z) = sym (unwritten (head_refused head) (made (head_plan head)) old z)

pub on-any-head : (head : List ℕ) → OnHead head
unfolding run_on_head run_high run_block alias_on_head alias_word alias_turned estimate_on_head estimate_kind estimate_double
on-any-head head =
    let own = on-any-plan (head_plan head) in
    record {
      check = of-head head;
      run = λ r. on-head head (λ p. run_refused p r) (own.run r);
      alias = λ e. on-head head (λ p. alias_refused p e) (own.alias e);
      estimate = λ e t. on-head head (λ p. estimate_refused p e t) (own.estimate e t);
      pass = λ f column. on-head head (λ p. pass_refused p f column) (own.pass f column);
      step = λ from to. on-head head (λ p. step_refused p from to) (own.step from to);
      totals = λ readings column. on-head head (λ p. totals_refused p readings column) (own.totals readings column);
      recover = λ ts column. on-head head (λ p. recover_refused p ts column) (own.recover ts column);
      table = λ readings marks column rows. on-head head (λ p. table_refused p readings marks column rows) (own.table readings marks column rows);
      screen = λ readings marks column rows. on-head head (λ p. screen_refused p readings marks column rows) (own.screen readings marks column rows);
      run-unwritten = λ r high block n. (sym (unwritten _ _ high n), sym (unwritten _ _ block n));
      alias-unwritten = λ e word turned n. (sym (unwritten _ _ word n), sym (unwritten _ _ turned n));
      estimate-unwritten = λ e t kind x n. (sym (unwritten _ _ kind n), sym (unwritten _ _ x n));
      pass-unwritten = λ f column n. unled head (λ p. pass_refused p f column) (λ p. pass_column p f column) column n (own.pass-unwritten f column);
      step-unwritten = λ from to n. unled head (λ p. step_refused p from to) (λ p. step_column p from to) to n (own.step-unwritten from to);
      totals-unwritten = λ readings column n.
          unled head (λ p. totals_refused p readings column) (λ p. totals_column p readings column) column n (own.totals-unwritten readings column);
      recover-unwritten = λ ts column n. unled head (λ p. recover_refused p ts column) (λ p. recover_column p ts column) column n (own.recover-unwritten ts column);
    }

pub for-C : ForC
unfolding call_refused room_refused table_refused sheet_table_refused blockings_count read_span known
for-C =
    record {
      table = λ p readings marks totals rows figures checks.
          roomed p readings marks totals rows (wrong_room (length figures) (length checks));
      sheet-table = λ sheet m n. of-sheet (fields_of sheet) (wrong_slices (plan_in (fields_of sheet)) m n);
      lists-unwritten = λ k b room lists n. sym (unwritten _ _ lists n);
      span-unwritten = λ sheet room span n. sym (unwritten _ _ span n);
    }
  where
    roomed : (p : Plan) (readings : List ℤ) (marks : List ℕ) (totals : List ℤ) (rows : List ℕ) (room : Bool)
        → OneOfTheNumbers (cond room (room_refused p) (table_refused p readings marks totals rows))
    roomed p readings marks totals rows true = by-plan p (refusal 11 true ∷ []) tt
    roomed p readings marks totals rows false = by-plan p (table_refusals p readings marks totals rows) tt

pub unhanded : (m : ℕ) (p : Plan) (readings : List ℤ) (marks : List ℕ) (totals : List ℤ) (rows figures : List ℕ) (checks : List ℤ)
    → Unhanded m p readings marks totals rows figures checks
unhanded m p readings marks totals rows figures checks =
    record {
      unwritten-all = λ h z.
          let stopped : (m ≡ 0 → ⊥) = λ d. z (h.number ∙ d) in (
            h.totals-left ∙ sym (unwritten m _ totals stopped),
            h.rows_left ∙ sym (unwritten m _ rows stopped),
            h.figures-left ∙ sym (unwritten m _ figures stopped),
            h.checks-left ∙ sym (unwritten m _ checks stopped),
          );
    }
