-- L1: "The lowest number that applies is returned alone"; L12: "an order of checks named in a request goes before lowest first". So the
-- number of each call is the first, in the one order of checks (`order` of crate `plan`), that applies to it.
--
--   on_plan p further              the refusals of a call on a plan: the plan's own, and the call's
--   on_sheet fs narrow             those of a call on a sheet: refusal 1, the plan's own, and the sheet's
--   on_bytes sheet                 those of the print call: refusal 1 holds of a sheet that is too long, too
--   on_head head further           those of a call on a plan in bytes: refusal 1, the plan's own, that of a needless field, and the call's
--   table_refusals_c               those of the table call for C on a whole plan: refusal 11 holds where figures or checks have no room, too
--   LowestNumber                   THE CLAIM, call by call
use Rattle.std.specs.Prelude.{Bool, false, ◌||◌, List, [], ◌∷◌, ◌++◌, ℕ, ltb, ℤ, length}
use Rattle.plan.specs.declared.types.Plan.{Plan}
use Rattle.plan.specs.Check.{plan_refusals, plan_refused}
use Rattle.plan.specs.Outcome.{Refusal, refusal, Lowest}
use Rattle.plan.specs.Plan.{whole_plan, all_readings}
use Rattle.plan.specs.Limits.{reading_limit}
use Rattle.columns.specs.Refusals.{any_beyond}
use Rattle.rows.specs.Kinds.{bad_marks}
use Rattle.runs.specs.Run.{run_refusals, run_refused}
use Rattle.aliases.specs.Alias.{alias_refusals, alias_refused}
use Rattle.blockings.specs.Blockings.{blockings_refusals, blockings_refused}
use Rattle.estimates.specs.Estimate.{estimate_refusals, estimate_refused}
use Rattle.yates.specs.Calls.{pass_refusals, pass_refused, totals_refusals, totals_refused}
use Rattle.recovery.specs.Calls.{recover_refusals, recover_refused}
use Rattle.steps.specs.Step.{step_refusals, step_refused}
use Rattle.anova.specs.Table.{wrong_lengths, table_refusals, table_refused}
use Rattle.screening.specs.Screening.{screen_refusals, screen_refused}
use Rattle.fields.specs.Fields.{Fields, fields_of}
use Rattle.fields.specs.Tags.{bad_fields}
use Rattle.contents.specs.Contents.{plan_in}
use Rattle.sheet.specs.Sheet.{sheet_refusals, read_refused, marks_refused}
use Rattle.printing.specs.Printed.{longest_sheet, print_refused}
use Rattle.heads.specs.Heads.{bad_head, head_plan, head_refusals, head_refused, called}
use Rattle.facts.specs.Facts.{run_on_head, alias_on_head, estimate_on_head}
use Rattle.figures.specs.Numbers.{wrong_room, call_refused}
use Rattle.tables.specs.Sheets.{wrong_slices, sheet_table_refused}

abbrev pub on_plan : Plan → List Refusal → List Refusal
on_plan p further = plan_refusals p ++ further

abbrev pub on_sheet : Fields → Bool → List Refusal
on_sheet fs narrow = refusal 1 (bad_fields fs) ∷ on_plan (plan_in fs) (sheet_refusals fs (plan_in fs) narrow)

-- W2: "Over 5,187 bytes it prints `refused 1`"
abbrev pub on_bytes : List ℕ → List Refusal
on_bytes sheet =
    refusal 1 (ltb longest_sheet (length sheet) || bad_fields (fields_of sheet))
    ∷ on_plan (plan_in (fields_of sheet)) (sheet_refusals (fields_of sheet) (plan_in (fields_of sheet)) false)

abbrev pub on_head : List ℕ → List Refusal → List Refusal
on_head head further = refusal 1 (bad_head (fields_of head)) ∷ on_plan (head_plan head) (head_refusals (fields_of head) ++ further)

abbrev pub table_refusals_c : Plan → List ℤ → List ℕ → List ℤ → List ℕ → List ℕ → List ℤ → List Refusal
table_refusals_c p readings marks totals rows figures checks =
    refusal 11 (wrong_room (length figures) (length checks) || wrong_lengths p (length readings) (length marks) (length totals) (length rows))
    ∷ refusal 12 (any_beyond (reading_limit p) readings)
    ∷ refusal 13 (bad_marks p marks)
    ∷ []

pub record LowestNumber : Type 0 where
  pub check : (p : Plan) → Lowest (plan_refused p) (plan_refusals p)
  -- L7: "the run and alias calls 9, 10", and "no 9 from the run call"
  pub run : (p : Plan) (r : ℕ) → Lowest (run_refused p r) (on_plan p (run_refusals p r))
  pub alias : (p : Plan) (e : ℕ) → Lowest (alias_refused p e) (on_plan p (alias_refusals p e))
  -- L8: "the estimate 9, 10, 12"
  pub estimate : (p : Plan) (e : ℕ) (t : ℤ) → Lowest (estimate_refused p e t) (on_plan p (estimate_refusals p e t))
  -- L13: "3, k outside this range; 17, word count outside it; then 18"
  pub blockings : (k b room : ℕ) → Lowest (blockings_refused k b room) (blockings_refusals k b room)
  -- L9: "the pass 10, 11, 12"
  pub pass : (p : Plan) (f : ℕ) (column : List ℤ) → Lowest (pass_refused p f column) (on_plan p (pass_refusals p f column))
  -- L10: "the step 11, 12"
  pub step : (p : Plan) (from to : List ℤ) → Lowest (step_refused p from to) (on_plan p (step_refusals p from to))
  -- the totals call is ours, with the step's refusals
  pub totals : (p : Plan) (readings column : List ℤ) → Lowest (totals_refused p readings column) (on_plan p (totals_refusals p readings column))
  -- L15: "14, no such readings exist, after 11; no 12 here"
  pub recover : (p : Plan) (ts column : List ℤ) → Lowest (recover_refused p ts column) (on_plan p (recover_refusals p ts column))
  -- L11: "the table 11, 12, 13"
  pub table : (p : Plan) (readings : List ℤ) (marks : List ℕ) (column : List ℤ) (rows : List ℕ)
      → Lowest (table_refused p readings marks column rows) (on_plan p (table_refusals p readings marks column rows))
  -- L14: "9 at three levels; 21, two effects meet as described, after 16; 13 also for a marked main effect"
  pub screen : (p : Plan) (readings : List ℤ) (marks : List ℕ) (column : List ℤ) (rows : List ℕ)
      → Lowest (screen_refused p readings marks column rows) (on_plan p (screen_refusals p readings marks column rows))
  -- L5: "the reader gives 1, 11, 12, 13"
  pub reader : (sheet : List ℕ) (room : ℕ) → Lowest (read_refused sheet room) (on_sheet (fields_of sheet) (ltb room (all_readings (plan_in (fields_of sheet)))))
  -- L6: "the marks call, each as its empty part, 1, 11 (without the column), 12, 13"
  pub marks : (sheet : List ℕ) → Lowest (marks_refused sheet) (on_sheet (fields_of sheet) false)
  -- W3: of the print call "any refusal prints that line alone with its number"
  pub print : (sheet : List ℕ) → Lowest (print_refused sheet) (on_bytes sheet)
  -- the calls for C, which take a whole plan by its levels, k and, but for the pass, how often its runs are made
  pub pass-C : (levels k f : ℕ) (column : List ℤ)
      → Lowest (pass_refused (whole_plan levels k 1) f column) (on_plan (whole_plan levels k 1) (pass_refusals (whole_plan levels k 1) f column))
  pub totals-C : (levels k r : ℕ) (readings column : List ℤ)
      → Lowest (totals_refused (whole_plan levels k r) readings column) (on_plan (whole_plan levels k r) (totals_refusals (whole_plan levels k r) readings column))
  pub recover-C : (levels k r : ℕ) (ts column : List ℤ)
      → Lowest (recover_refused (whole_plan levels k r) ts column) (on_plan (whole_plan levels k r) (recover_refusals (whole_plan levels k r) ts column))
  pub table-C : (levels k r : ℕ) (readings : List ℤ) (marks : List ℕ) (column : List ℤ) (rows figures : List ℕ) (checks : List ℤ)
      → Lowest (call_refused (whole_plan levels k r) readings marks column rows figures checks)
      (on_plan (whole_plan levels k r) (table_refusals_c (whole_plan levels k r) readings marks column rows figures checks))
  -- the calls for other languages, which take a plan in bytes; the blocking call, the reader, the marks and the text have the numbers above
  pub check-head : (head : List ℕ) → Lowest (head_refused head) (on_head head [])
  pub run-head : (head : List ℕ) (r : ℕ) → Lowest (run_on_head head r) (on_head head (run_refusals (head_plan head) r))
  pub alias-head : (head : List ℕ) (e : ℕ) → Lowest (alias_on_head head e) (on_head head (alias_refusals (head_plan head) e))
  pub estimate-head : (head : List ℕ) (e : ℕ) (t : ℤ) → Lowest (estimate_on_head head e t) (on_head head (estimate_refusals (head_plan head) e t))
  pub pass-head : (head : List ℕ) (f : ℕ) (column : List ℤ)
      → Lowest (called head (λ p. pass_refused p f column)) (on_head head (pass_refusals (head_plan head) f column))
  pub step-head : (head : List ℕ) (from to : List ℤ) → Lowest (called head (λ p. step_refused p from to)) (on_head head (step_refusals (head_plan head) from to))
  pub totals-head : (head : List ℕ) (readings column : List ℤ)
      → Lowest (called head (λ p. totals_refused p readings column)) (on_head head (totals_refusals (head_plan head) readings column))
  pub recover-head : (head : List ℕ) (ts column : List ℤ)
      → Lowest (called head (λ p. recover_refused p ts column)) (on_head head (recover_refusals (head_plan head) ts column))
  pub table-head : (head : List ℕ) (readings : List ℤ) (marks : List ℕ) (column : List ℤ) (rows : List ℕ)
      → Lowest (called head (λ p. table_refused p readings marks column rows)) (on_head head (table_refusals (head_plan head) readings marks column rows))
  pub screen-head : (head : List ℕ) (readings : List ℤ) (marks : List ℕ) (column : List ℤ) (rows : List ℕ)
      → Lowest (called head (λ p. screen_refused p readings marks column rows)) (on_head head (screen_refusals (head_plan head) readings marks column rows))
  -- the table of a sheet, lent m places for totals and n for rows
  pub table-sheet : (sheet : List ℕ) (m n : ℕ) → Lowest (sheet_table_refused sheet m n) (on_sheet (fields_of sheet) (wrong_slices (plan_in (fields_of sheet)) m n))
