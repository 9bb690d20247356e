-- That the claim `LowestNumber` holds.
--
--   lowest-number    the proof
use Rattle.std.specs.Prelude.{◌≡◌, refl, Bool, true, false, cond, ◌||◌, List, [], ◌∷◌, ◌++◌, ℕ, T, eqb, ltb, ℤ, length}
use Rattle.std.proofs.Common.{ap, ◌∙◌}
use Rattle.plan.specs.declared.types.Plan.{Plan}
use Rattle.plan.specs.Check.{plan_refusals, plan_refused, with_plan}
use Rattle.plan.specs.Outcome.{Refusal, refusal, lowest, rank, rising, Lowest}
use Rattle.plan.specs.Plan.{whole_plan, all_readings}
use Rattle.plan.specs.Limits.{reading_limit}
use Rattle.plan.proofs.Laws.Lowest.{is-lowest, with-plan, lowest-with-plan}
use Rattle.columns.specs.Refusals.{any_beyond, columns_refused, readings_refused}
use Rattle.rows.specs.Kinds.{bad_marks}
use Rattle.runs.specs.Run.{run_refusals, run_refused}
use Rattle.aliases.specs.Alias.{alias_refusals, alias_refused}
use Rattle.blockings.specs.Blockings.{blockings_refusals, blockings_refused}
use Rattle.estimates.specs.Estimate.{estimate_refusals, estimate_refused}
use Rattle.yates.specs.Calls.{pass_refusals, pass_refused, totals_refusals, totals_refused}
use Rattle.recovery.specs.Calls.{recover_refusals, recover_refused}
use Rattle.steps.specs.Step.{step_refusals, step_refused}
use Rattle.anova.specs.Table.{wrong_lengths, table_refusals, table_refused}
use Rattle.screening.specs.Screening.{screen_refusals, screen_refused}
use Rattle.fields.specs.Fields.{Fields, fields_of}
use Rattle.fields.specs.Tags.{bad_fields}
use Rattle.contents.specs.Contents.{needless, plan_in}
use Rattle.sheet.specs.Sheet.{sheet_refusals, refused_with, read_refused, marks_refused}
use Rattle.printing.specs.Printed.{longest_sheet, print_refused}
use Rattle.heads.specs.Heads.{bad_head, head_plan, head_refusals, head_refused, called}
use Rattle.facts.specs.Facts.{run_on_head, alias_on_head, estimate_on_head}
use Rattle.figures.specs.Numbers.{wrong_room, room_refused, call_refused}
use Rattle.tables.specs.Sheets.{wrong_slices, sheet_table_refused}
use Rattle.claims.specs.LowestNumber.{on_plan, on_sheet, on_bytes, on_head, table_refusals_c, LowestNumber}

-- each list has its numbers written out, so that they stand in the order of checks is computed
of-sheet : (fs : Fields) (narrow : Bool) → Lowest (refused_with fs (plan_in fs) narrow) (on_sheet fs narrow)
unfolding refused_with rank
of-sheet fs narrow = rw (with-plan (plan_in fs) (sheet_refusals fs (plan_in fs) narrow)) (is-lowest (on_sheet fs narrow) tt)

-- a sheet that is too long is refused as one whose fields are bad
of-bytes : (sheet : List ℕ) → print_refused sheet ≡ lowest (on_bytes sheet)
unfolding print_refused marks_refused refused_with
of-bytes sheet = by (ltb longest_sheet (length sheet)) (bad_fields (fields_of sheet))
  where
    rest : List Refusal
    rest = sheet_refusals (fields_of sheet) (plan_in (fields_of sheet)) false

    by : (long bad : Bool) → cond long 1 (cond bad 1 (with_plan (plan_in (fields_of sheet)) rest))
        ≡ lowest (refusal 1 (long || bad) ∷ on_plan (plan_in (fields_of sheet)) rest)
    by true bad = refl
    by false true = refl
    by false false = with-plan (plan_in (fields_of sheet)) rest

-- a table that has no room for its figures is refused as one whose slices have wrong lengths
of-table : (p : Plan) (readings : List ℤ) (marks : List ℕ) (column : List ℤ) (rows figures : List ℕ) (checks : List ℤ)
    → call_refused p readings marks column rows figures checks ≡ with_plan p (table_refusals_c p readings marks column rows figures checks)
unfolding call_refused room_refused table_refused with_plan
of-table p readings marks column rows figures checks = by (wrong_room (length figures) (length checks))
  where
    by : (room : Bool) → cond room (with_plan p (refusal 11 true ∷ [])) (with_plan p (table_refusals p readings marks column rows))
        ≡ with_plan p (refusal 11 (room || wrong_lengths p (length readings) (length marks) (length column) (length rows))
        ∷ refusal 12 (any_beyond (reading_limit p) readings) ∷ refusal 13 (bad_marks p marks) ∷ [])
    by true = refl
    by false = refl

-- a call on the plan of a head has one list of refusals: a needless field is judged between the plan's and the call's
needless-first : (n : Bool) (further : List Refusal) → cond (eqb (cond n 16 0) 0) (lowest further) (cond n 16 0) ≡ cond n 16 (lowest further)
needless-first true further = refl
needless-first false further = refl

of-plan : (p : Plan) (n : Bool) (further : List Refusal)
    → cond (eqb (with_plan p (refusal 16 n ∷ [])) 0) (with_plan p further) (with_plan p (refusal 16 n ∷ [])) ≡ with_plan p (refusal 16 n ∷ further)
unfolding with_plan
of-plan p n further = by (eqb (plan_refused p) 0) refl
  where
    by : (z : Bool) → eqb (plan_refused p) 0 ≡ z
        → cond (eqb (cond z (cond n 16 0) (plan_refused p)) 0) (cond z (lowest further) (plan_refused p)) (cond z (cond n 16 0) (plan_refused p))
        ≡ cond z (cond n 16 (lowest further)) (plan_refused p)
    by true e = needless-first n further
    by false e = rw e refl

of-head : (head : List ℕ) (number : Plan → ℕ) (further : List Refusal) → number (head_plan head) ≡ with_plan (head_plan head) further
    → called head number ≡ lowest (on_head head further)
unfolding called head_refused
of-head head number further e = by (bad_head (fields_of head))
  where
    p : Plan
    p = head_plan head

    own : List Refusal
    own = head_refusals (fields_of head)

    by : (bad : Bool) → cond (eqb (cond bad 1 (with_plan p own)) 0) (number p) (cond bad 1 (with_plan p own)) ≡ cond bad 1 (lowest (on_plan p (own ++ further)))
    by true = refl
    by false = rw e (of-plan p (needless (fields_of head)) further ∙ with-plan p (own ++ further))

head-alone : (head : List ℕ) → head_refused head ≡ lowest (on_head head [])
unfolding head_refused
head-alone head = ap (cond (bad_head (fields_of head)) 1) (with-plan (head_plan head) (head_refusals (fields_of head)))

module _ (head : List ℕ) (number : Plan → ℕ) (further : List Refusal) where
  on-head : number (head_plan head) ≡ with_plan (head_plan head) further → T (rising 0 (on_head head further)) → Lowest (called head number) (on_head head further)
  on-head e t = rw (of-head head number further e) (is-lowest (on_head head further) t)

pub lowest-number : LowestNumber
unfolding plan_refused run_refused alias_refused estimate_refused blockings_refused pass_refused columns_refused readings_refused recover_refused table_refused screen_refused read_refused marks_refused run_on_head alias_on_head estimate_on_head sheet_table_refused rank
lowest-number =
    record {
      check = λ p. is-lowest (plan_refusals p) tt;
      run = λ p r. lowest-with-plan p (run_refusals p r) tt;
      alias = λ p e. lowest-with-plan p (alias_refusals p e) tt;
      estimate = λ p e t. lowest-with-plan p (estimate_refusals p e t) tt;
      blockings = λ k b room. is-lowest (blockings_refusals k b room) tt;
      pass = λ p f column. lowest-with-plan p (pass_refusals p f column) tt;
      step = λ p from to. lowest-with-plan p (step_refusals p from to) tt;
      totals = λ p readings column. lowest-with-plan p (totals_refusals p readings column) tt;
      recover = λ p ts column. lowest-with-plan p (recover_refusals p ts column) tt;
      table = λ p readings marks column rows. lowest-with-plan p (table_refusals p readings marks column rows) tt;
      screen = λ p readings marks column rows. lowest-with-plan p (screen_refusals p readings marks column rows) tt;
      reader = λ sheet room. of-sheet (fields_of sheet) (ltb room (all_readings (plan_in (fields_of sheet))));
      marks = λ sheet. of-sheet (fields_of sheet) false;
      print = λ sheet. rw (of-bytes sheet) (is-lowest (on_bytes sheet) tt);
      pass-C = λ levels k f column. lowest-with-plan (whole_plan levels k 1) (pass_refusals (whole_plan levels k 1) f column) tt;
      totals-C = λ levels k r readings column. lowest-with-plan (whole_plan levels k r) (totals_refusals (whole_plan levels k r) readings column) tt;
      recover-C = λ levels k r ts column. lowest-with-plan (whole_plan levels k r) (recover_refusals (whole_plan levels k r) ts column) tt;
      table-C = λ levels k r readings marks column rows figures checks.
          rw (of-table (whole_plan levels k r) readings marks column rows figures checks)
          (lowest-with-plan (whole_plan levels k r) (table_refusals_c (whole_plan levels k r) readings marks column rows figures checks) tt);
      check-head = λ head. rw (head-alone head) (is-lowest (on_head head []) tt);
      run-head = λ head r. on-head head (λ p. run_refused p r) (run_refusals (head_plan head) r) refl tt;
      alias-head = λ head e. on-head head (λ p. alias_refused p e) (alias_refusals (head_plan head) e) refl tt;
      estimate-head = λ head e t. on-head head (λ p. estimate_refused p e t) (estimate_refusals (head_plan head) e t) refl tt;
      pass-head = λ head f column. on-head head (λ p. pass_refused p f column) (pass_refusals (head_plan head) f column) refl tt;
      step-head = λ head from to. on-head head (λ p. step_refused p from to) (step_refusals (head_plan head) from to) refl tt;
      totals-head = λ head readings column. on-head head (λ p. totals_refused p readings column) (totals_refusals (head_plan head) readings column) refl tt;
      recover-head = λ head ts column. on-head head (λ p. recover_refused p ts column) (recover_refusals (head_plan head) ts column) refl tt;
      table-head = λ head readings marks column rows.
          on-head head (λ p. table_refused p readings marks column rows) (table_refusals (head_plan head) readings marks column rows) refl tt;
      screen-head = λ head readings marks column rows.
          on-head head (λ p. screen_refused p readings marks column rows) (screen_refusals (head_plan head) readings marks column rows) refl tt;
      table-sheet = λ sheet m n. of-sheet (fields_of sheet) (wrong_slices (plan_in (fields_of sheet)) m n);
    }
