-- What the reader accepts, the marks call hands back: R bytes, each 0 or 1.
--
--   accepted-without    a sheet that the reader accepts is accepted without the column too
--   same-refused        a column that has room for every plan changes no number
--   small-marks         marks to which refusal 13 does not apply are 0 or 1
--   Lawful p marks      so many marks as the plan has rows, each 0 or 1
--   marks-lawful        the marks of a sheet that the reader accepts
use Rattle.std.specs.Prelude.{◌≡◌, refl, ◌&&◌, ◌||◌, ℕ, ◌<◌, ◌≤◌, eqb, ltb, length, get_or}
use Rattle.std.proofs.Math.Bool.{false}
use mathlib.Core.List.{List, []}
use Rattle.std.proofs.Common.{le_trans, le-ltb, ltb-false}
use Rattle.algebra.specs.Laws.Search.{none-at}
use Rattle.algebra.specs.Laws.Tests.{neither}
use Rattle.plan.specs.declared.types.Plan.{Plan}
use Rattle.plan.specs.Plan.{all_readings, confounded_in}
use Rattle.plan.proofs.Laws.Answers.{written_new}
use Rattle.plan.proofs.Laws.Sizes.{readings-few}
use Rattle.rows.specs.Kinds.{rows_in, bad_mark, bad_marks}
use Rattle.rows.proofs.Laws.Rows.{rows-as-long}
use Rattle.fields.specs.Fields.{fields_of}
use Rattle.contents.specs.Contents.{plan_in, marks_in}
use Rattle.sheet.specs.Sheet.{read_refused, no_plan, read_plan, marks_refused, marks_of}
use Rattle.sheet.specs.Laws.Admitted.{admits, read-admitted}
use Rattle.sheet.specs.Laws.Holding.{narrow-by}

pub same-refused : (sheet : List ℕ) (room : ℕ) → 1024 ≤ room → read_refused sheet room ≡ marks_refused sheet
unfolding read_refused marks_refused
same-refused sheet room h =
    let p = plan_in (fields_of sheet) in
    narrow-by (fields_of sheet) p (ltb room (all_readings p)) false (λ z. le-ltb room (all_readings p) (le_trans (readings-few p z) h))

pub record Lawful (p : Plan) (marks : List ℕ) : Type 0 where
  pub long : length marks ≡ rows_in p
  pub small : (w : ℕ) → w < length marks → get_or marks w 0 ≤ 1

pub small-marks : (p : Plan) (marks : List ℕ) → bad_marks p marks ≡ false → (w : ℕ) → w < length marks → get_or marks w 0 ≤ 1
unfolding bad_marks bad_mark
small-marks p marks e w h =
    let m = get_or marks w 0 in
    ltb-false 1 m (neither (ltb 1 m) (eqb m 1 && (eqb w 0 || confounded_in p w)) (none-at (length marks) (λ v. bad_mark p v (get_or marks v 0)) e w h)).0

module _ (sheet : List ℕ) (room : ℕ) (z : read_refused sheet room ≡ 0) where
  pub accepted-without : marks_refused sheet ≡ 0
  unfolding marks_refused
  accepted-without =
      let a = read-admitted sheet room z in
      admits (fields_of sheet) (plan_in (fields_of sheet)) false
      (record { fields = a.fields; plan = a.plan; needed = a.needed; wide = refl; readings = a.readings; marks = a.marks; within = a.within; lawful = a.lawful })

  pub marks-lawful : Lawful (read_plan sheet room) (marks_of sheet)
  unfolding read_plan marks_of
  marks-lawful =
      rw
      (← (written_new (read_refused sheet room) (plan_in (fields_of sheet)) no_plan z), ← (written_new (marks_refused sheet) (marks_in (fields_of sheet)) [] accepted-without))
      (record {
        long = rows-as-long (plan_in (fields_of sheet)) (length (marks_in (fields_of sheet))) (read-admitted sheet room z).marks;
        small = small-marks (plan_in (fields_of sheet)) (marks_in (fields_of sheet)) (read-admitted sheet room z).lawful;
      })
