-- The number of a sheet, and what the two calls give.
--
--   sheet_refusals fs p narrow             the refusals besides refusal 1 and those of the plan
--   refused_with fs p narrow               the first number that applies to a sheet whose plan is p, 0 where it is accepted
--   sheet_refused fs narrow                of a sheet
--   no_plan                                the plan of all zeros
--   read_refused, read_plan, read_column   the reader
--   marks_refused, marks_of                the marks call
--   sheet_outcome, plan_of                 the cases of the reader's answer, and its plan
use Rattle.std.specs.Prelude.{Result, Ok, Err, Bool, false, cond, ◌||◌, List, [], ◌∷◌, ◌++◌, ℕ, ltb, ℤ, length, drop, replicate}
use Rattle.contrasts.specs.Limits.{most_added, most_blocks}
use Rattle.plan.specs.declared.types.Plan.{Plan}
use Rattle.plan.specs.Check.{with_plan}
use Rattle.plan.specs.Limits.{reading_limit}
use Rattle.plan.specs.declared.refusals.Refusal as refusals
use Rattle.plan.specs.Refusals.{outcome_by}
use Rattle.plan.specs.Outcome.{Outcome, Refusal, refusal, written}
use Rattle.plan.specs.Plan.{all_readings}
use Rattle.columns.specs.Refusals.{wrong_readings, any_beyond}
use Rattle.rows.specs.Kinds.{wrong_rows, bad_marks}
use Rattle.fields.specs.Fields.{Fields, fields_of}
use Rattle.fields.specs.Tags.{bad_fields}
use Rattle.contents.specs.Contents.{needless, plan_in, readings_in, marks_in}

-- ---- what is refused

-- L5, L6: "the reader gives 1, 11, 12, 13"
-- N16: "a tag 6 holding 1 also gives 16"; L12: after the plan's own numbers, and before those that follow
-- N11: "readings [..] or marks not N, [..] R long; [..] reader's column under N", where `narrow` says the last
-- S15: "Field 4 and the reader's column hold N times r readings."
-- N12: "reading beyond [its limit] either way", by the plan's levels
abbrev pub sheet_refusals : Fields → Plan → Bool → List Refusal
sheet_refusals fs p narrow =
    refusal 16 (needless fs)
    ∷ refusal 11 (narrow || (wrong_readings p (length (readings_in fs)) || wrong_rows p (length (marks_in fs))))
    ∷ refusal 12 (any_beyond (reading_limit p) (readings_in fs))
    ∷ refusal 13 (bad_marks p (marks_in fs))
    ∷ []

-- L1, L4 to L6: refusal 1 before all others, then the plan's own numbers, then these
unfoldable pub refused_with : Fields → Plan → Bool → ℕ
refused_with fs p narrow = cond (bad_fields fs) 1 (with_plan p (sheet_refusals fs p narrow))

abbrev pub sheet_refused : Fields → Bool → ℕ
sheet_refused fs narrow = refused_with fs (plan_in fs) narrow

-- ---- the reader, of a sheet and a column

-- N11: "reader's column under N"; S15: it holds N times r readings
unfoldable pub read_refused : List ℕ → ℕ → ℕ
read_refused sheet room = sheet_refused (fields_of sheet) (ltb room (all_readings (plan_in (fields_of sheet))))

-- C3: the rules leave free what plan a refused sheet has
abbrev pub no_plan : Plan
no_plan = record {
  levels = 0;
  k = 0;
  added = 0;
  words = replicate most_added 0;
  signs = replicate most_added 0;
  blocks = 0;
  blockwords = replicate most_blocks 0;
  repeats = 0;
}

-- S9: "The reader returns the plan"
unfoldable pub read_plan : List ℕ → ℕ → Plan
read_plan sheet room = written (read_refused sheet room) (plan_in (fields_of sheet)) no_plan

-- S10, S11: "and fills the first N places of a lent i32 column of N or more; later places keep their numbers"; S15: the first N times r
unfoldable pub read_column : List ℕ → List ℤ → List ℤ
read_column sheet column =
    written
    (read_refused sheet (length column))
    (readings_in (fields_of sheet) ++ drop (length (readings_in (fields_of sheet))) column)
    column

-- ---- the marks call

-- L6: "11 (without the column)"
unfoldable pub marks_refused : List ℕ → ℕ
marks_refused sheet = sheet_refused (fields_of sheet) false

-- S12, S13: "hands back the marks as the part of the sheet that holds them; [..] if the sheet is refused, an empty part"; its bytes, and
-- not where they lie (docs/DECISIONS.md 76)
unfoldable pub marks_of : List ℕ → List ℕ
marks_of sheet = written (marks_refused sheet) (marks_in (fields_of sheet)) []

-- ---- the reader's answer

-- F12: the plan stands by itself (`plan_of`)
abbrev pub sheet_outcome : Result Plan refusals.Refusal → Outcome Unit
sheet_outcome answer = outcome_by (λ p. tt) answer

-- the plan, and where the sheet is refused that of all zeros
abbrev pub plan_of : Result Plan refusals.Refusal → Plan
plan_of (Ok p) = p
plan_of (Err r) = no_plan
