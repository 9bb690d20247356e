-- The text of a sheet, from what the reader and the marks call give.
--
--   own-plan, own-marks, own-readings    what they give of an accepted sheet is what its fields hold
--   sheet-ready                          of an accepted sheet all that the table asks is known
--   sheet-made, sheet-stopped            the text of an accepted sheet, and of one that is refused
use Rattle.std.specs.Prelude.{Result, Ok, Err, ◌≡◌, refl, ℕ, ◌≤◌, ℤ, length, take}
use Rattle.std.proofs.Math.Path.{sym}
use Rattle.std.proofs.Common.{ap, ◌∙◌, arith, length-append, length-drop, take_at}
use mathlib.Core.List.{List, [], ◌++◌}
use Rattle.std.proofs.Math.ListN.{drop}
use Rattle.plan.specs.declared.types.Plan.{Plan}
use Rattle.plan.specs.declared.refusals.Refusal.{Refusal}
use Rattle.plan.specs.Outcome.{outcome}
use Rattle.plan.specs.Refusals.{number}
use Rattle.plan.specs.Plan.{all_readings}
use Rattle.plan.proofs.Laws.Answers.{written_new, given_is, refused-is}
use Rattle.plan.proofs.Laws.Sizes.{readings-few}
use Rattle.columns.specs.Laws.Admitted.{all-readings}
use Rattle.rows.proofs.Laws.Rows.{rows-as-long}
use Rattle.fields.specs.Fields.{fields_of}
use Rattle.contents.specs.Contents.{plan_in, readings_in, marks_in}
use Rattle.sheet.specs.Sheet.{sheet_outcome, read_refused, no_plan, read_plan, read_column, marks_refused, marks_of}
use Rattle.sheet.specs.Laws.Admitted.{read-admitted}
use Rattle.sheet.specs.Laws.Marks.{same-refused, accepted-without}
use Rattle.text.specs.declared.bytes.Text.{Text}
use Rattle.text.specs.Text.{ascii, Writes}
use Rattle.text.specs.Laws.Writing.{retext}
use Rattle.lines.specs.Lines.{named_line}
use Rattle.printing.specs.Inner.Ready.{SheetReady}
use Rattle.printing.specs.Inner.Written.{made_text}
use Rattle.printing.specs.Printed.{printed, sheet_table}
use Rattle.printing.specs.Laws.Tables.{given-text, refused-text}

-- ---- a sheet that is refused

pub sheet-stopped : (sheet : List ℕ) (room : ℕ) → 1024 ≤ room → {answer : Result Plan Refusal} → sheet_outcome answer ≡ outcome (read_refused sheet room) tt
    → {r : Refusal} {n : ℕ} → answer ≡ Err r → n ≡ number r → {a b : Text} → Writes a (named_line (ascii "refused") n) b
    → Writes a (printed (marks_refused sheet) (sheet_table sheet)) b
sheet-stopped sheet room wide told is own w =
    let s = refused-is (read_refused sheet room) tt (ap sheet_outcome (sym is) ∙ told) in
    let e = same-refused sheet room wide in
    refused-text (sheet_table sheet) (own ∙ s.0 ∙ e) (λ z. s.1 (e ∙ z)) w

-- ---- a sheet that is accepted

module _ (sheet : List ℕ) (before : List ℤ) (long : length before ≡ 1024) {answer : Result Plan Refusal} (told : sheet_outcome answer ≡ outcome (read_refused sheet (length before)) tt) where
  module _ {p : Plan} (is : answer ≡ Ok p) where
    accepted : read_refused sheet (length before) ≡ 0
    accepted = (given_is (read_refused sheet (length before)) tt (ap sheet_outcome (sym is) ∙ told)).0

    module _ {column : List ℤ} {marks : List ℕ}
        (plan-is : p ≡ read_plan sheet (length before)) (column-is : column ≡ read_column sheet before) (marks-are : marks ≡ marks_of sheet) where
      pub own-plan : p ≡ plan_in (fields_of sheet)
      unfolding read_plan
      own-plan = plan-is ∙ sym (written_new (read_refused sheet (length before)) (plan_in (fields_of sheet)) no_plan accepted)

      pub own-marks : marks ≡ marks_in (fields_of sheet)
      unfolding marks_of
      own-marks = marks-are ∙ sym (written_new (marks_refused sheet) (marks_in (fields_of sheet)) [] (accepted-without sheet (length before) accepted))

      own-column : column ≡ readings_in (fields_of sheet) ++ drop (length (readings_in (fields_of sheet))) before
      unfolding read_column
      own-column =
          column-is
          ∙ sym (written_new (read_refused sheet (length before)) (readings_in (fields_of sheet) ++ drop (length (readings_in (fields_of sheet))) before) before accepted)

      readings-are : length (readings_in (fields_of sheet)) ≡ all_readings (plan_in (fields_of sheet))
      readings-are = all-readings (plan_in (fields_of sheet)) (length (readings_in (fields_of sheet))) (read-admitted sheet (length before) accepted).readings

      pub own-readings : take (all_readings p) column ≡ readings_in (fields_of sheet)
      own-readings = rw (own-plan, own-column) (take_at (readings_in (fields_of sheet)) (drop (length (readings_in (fields_of sheet))) before) (all_readings (plan_in (fields_of sheet))) readings-are)

      pub sheet-ready : SheetReady p column marks
      sheet-ready =
          let a = read-admitted sheet (length before) accepted in
          record {
            plan = rw own-plan a.plan;
            wide =
                ap length own-column
                ∙ length-append (readings_in (fields_of sheet)) (drop (length (readings_in (fields_of sheet))) before)
                ∙ omega (arith, length-drop (length (readings_in (fields_of sheet))) before, long, readings-are, readings-few (plan_in (fields_of sheet)) a.plan);
            within = rw (own-readings, own-plan) a.within;
            marks-long = rw (own-plan, own-marks) (rows-as-long (plan_in (fields_of sheet)) (length (marks_in (fields_of sheet))) a.marks);
            lawful = rw (own-plan, own-marks) a.lawful;
          }

      pub sheet-made : {a b : Text}
          → Writes a (made_text p (take (all_readings p) column) marks) b
          → Writes a (printed (marks_refused sheet) (sheet_table sheet)) b
      unfolding sheet_table
      sheet-made w =
          given-text (sheet_table sheet) (sym (same-refused sheet (length before) (omega (arith, long))) ∙ accepted)
          (retext (rw (own-readings, own-plan, own-marks) refl) w)
