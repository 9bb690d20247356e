-- The screening call's number of a sheet that the printing call accepts.
--
--   accepted-alike    the printing call accepts what the marks call does, and no more
--   own-numbers       21 where two effects meet, 9 at three levels, 13 where a main effect is marked, and else none
use Rattle.std.specs.Prelude.{◌≡◌, List, [], ◌∷◌, ℕ, eqb, ltb, ℤ, pos, length, replicate}
use Rattle.std.proofs.Math.Path.{refl}
use Rattle.std.proofs.Common.{◌∙◌, arith, le-ltb}
use Rattle.std.proofs.lemmas.List.{length-replicate}
use Rattle.plan.specs.declared.types.Plan.{Plan}
use Rattle.plan.specs.Outcome.{refusal, lowest}
use Rattle.plan.proofs.Laws.Answers.{passed}
use Rattle.plan.specs.Plan.{runs_of}
use Rattle.columns.specs.Laws.Admitted.{all-readings}
use Rattle.rows.specs.Kinds.{rows_in}
use Rattle.rows.proofs.Laws.Rows.{rows-as-long}
use Rattle.anova.specs.Table.{table_refused}
use Rattle.anova.specs.Laws.Admitted.{table-admits}
use Rattle.fields.specs.Fields.{fields_of}
use Rattle.contents.specs.Contents.{plan_in, readings_in, marks_in}
use Rattle.sheet.specs.Sheet.{marks_refused}
use Rattle.sheet.specs.Laws.Admitted.{marks-admitted}
use Rattle.sheet.specs.Laws.Lengths.{longest}
use Rattle.screening.specs.Screening.{meet, marked_main}
use Rattle.screening.proofs.Laws.Admitted.{by-table}
use Rattle.printing.specs.Printed.{longest_sheet, print_refused}
use Rattle.screentab.specs.Screened.{screen_number}

module _ (sheet : List ℕ) where
  pub accepted-alike : (print_refused sheet ≡ 0 → marks_refused sheet ≡ 0) × (marks_refused sheet ≡ 0 → print_refused sheet ≡ 0)
  unfolding print_refused
  accepted-alike = (
    λ z. (passed (ltb longest_sheet (length sheet)) 1 (marks_refused sheet) (omega arith) z).1,
    λ z. rw (le-ltb longest_sheet (length sheet) (longest sheet z)) z,
  )

  abbrev p : Plan
  p = plan_in (fields_of sheet)

  abbrev readings : List ℤ
  readings = readings_in (fields_of sheet)

  abbrev marks : List ℕ
  marks = marks_in (fields_of sheet)

  -- the table call makes a table of all that the sheet holds
  table-made : marks_refused sheet ≡ 0 → table_refused p readings marks (replicate (runs_of p) (pos 0)) (replicate (rows_in p) 0) ≡ 0
  table-made z =
      let a = marks-admitted sheet z in
      table-admits p readings marks (replicate (runs_of p) (pos 0)) (replicate (rows_in p) 0) a.plan (all-readings p (length readings) a.readings)
      (length-replicate (runs_of p) (pos 0)) (length-replicate (rows_in p) 0) (rows-as-long p (length marks) a.marks) a.within a.lawful

  -- L14: in the order of checks; the other numbers are those that the printing call has too
  pub own-numbers : print_refused sheet ≡ 0
      → screen_number sheet
      ≡ lowest
      (refusal 21 (meet (plan_in (fields_of sheet)))
      ∷ refusal 9 (eqb (plan_in (fields_of sheet)).levels 3)
      ∷ refusal 13 (marked_main (plan_in (fields_of sheet)) (marks_in (fields_of sheet)))
      ∷ [])
  unfolding screen_number
  own-numbers e =
      let z = accepted-alike.0 e in
      by-table p readings marks (replicate (runs_of p) (pos 0)) (replicate (rows_in p) 0) (marks-admitted sheet z).plan ∙ rw (table-made z) refl
