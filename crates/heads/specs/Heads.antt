-- The head of a sheet, its fields before the readings: a plan in bytes, and a call on such a plan.
--
--   bad_head fs              refusal 1 of a head
--   head_plan head           the plan that it holds
--   head_refusals fs         its refusals besides refusal 1 and those of the plan
--   head_refused head        the first number that applies to a head, 0 where nothing is refused
--   head_length sheet        how many bytes of a sheet are its head
--   called head number       the number of a call on that plan, by the call's number for a plan
--   leaves head made old     what such a call leaves in what it is lent to write, by what it leaves for a plan
use Rattle.std.specs.Prelude.{Bool, cond, not, ◌||◌, List, [], ◌∷◌, ℕ, ◌+◌, ◌-◌, eqb, length}
use Rattle.plan.specs.declared.types.Plan.{Plan}
use Rattle.plan.specs.Check.{with_plan}
use Rattle.plan.specs.Outcome.{Refusal, refusal, written}
use Rattle.fields.specs.Fields.{Fields, fields_of, bodies, body_at}
use Rattle.fields.specs.Tags.{once, at_most_once, bad_from}
use Rattle.contents.specs.Contents.{needless, plan_in}

-- N1, as of a sheet: a field cut short, an unknown or falling tag, a wrong length; tag 1 once, tag 6 at most once. A head ends before the
-- readings: it has no tag 4, and no tag 5
unfoldable pub bad_head : Fields → Bool
bad_head fs =
    bad_from 0 fs
    || (not (once (length (bodies 1 fs)))
    || (not (at_most_once (length (bodies 6 fs))) || (not (eqb (length (bodies 4 fs)) 0) || not (eqb (length (bodies 5 fs)) 0))))

-- S4 to S6, S14: as of a sheet
abbrev pub head_plan : List ℕ → Plan
head_plan head = plan_in (fields_of head)

-- N16: "a tag 6 holding 1 also gives 16"
abbrev pub head_refusals : Fields → List Refusal
head_refusals fs = refusal 16 (needless fs) ∷ []

-- L1, L4: refusal 1 before all others, then the plan's own numbers, then these
unfoldable pub head_refused : List ℕ → ℕ
head_refused head = cond (bad_head (fields_of head)) 1 (with_plan (head_plan head) (head_refusals (fields_of head)))

-- ---- the head of a sheet

-- S3: all bytes but those of the last two fields, with tag and length: the readings, tag 4, and the marks, tag 5
unfoldable pub head_length : List ℕ → ℕ
head_length sheet = length sheet - (3 + length (body_at 4 0 (fields_of sheet))) - (3 + length (body_at 5 0 (fields_of sheet)))

-- ---- calls on the plan of a head

-- L1: the head's number, and where there is none that of the call on its plan
unfoldable pub called : List ℕ → (Plan → ℕ) → ℕ
called head number = cond (eqb (head_refused head) 0) (number (head_plan head)) (head_refused head)

-- L2: "and no lent place changes"
unfoldable pub leaves : {A : Type 0} → List ℕ → (Plan → A) → A → A
leaves head made old = written (head_refused head) (made (head_plan head)) old
