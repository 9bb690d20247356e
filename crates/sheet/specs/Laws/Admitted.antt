-- What is known of a sheet that is accepted.
--
--   Admitted fs p narrow             its fields, plan, readings and marks are as the rules ask, and the column is wide enough
--   admitted                         so they are where there is no number
--   admits                           and this is all that is asked
--   own-refused                      a plan's own number comes before the refusals that name the column, the readings and the marks
--   read-admitted, marks-admitted    of a sheet that the reader accepts, and of one that the marks call does
use Rattle.std.specs.Prelude.{◌≡◌, Bool, false, cond, ◌||◌, List, ℕ, ltb, length}
use Rattle.std.proofs.Math.Path.{refl, ap}
use Rattle.std.proofs.Common.{sym, ◌∙◌, arith}
use Rattle.algebra.specs.Laws.Tests.{neither}
use Rattle.plan.specs.declared.types.Plan.{Plan}
use Rattle.plan.specs.Check.{plan_refused}
use Rattle.plan.specs.Limits.{reading_limit}
use Rattle.plan.proofs.Laws.Answers.{passed, plan-first, plan-passed, after-plan}
use Rattle.plan.specs.Plan.{all_readings}
use Rattle.columns.specs.Refusals.{wrong_readings, any_beyond}
use Rattle.rows.specs.Kinds.{wrong_rows, bad_marks}
use Rattle.fields.specs.Fields.{Fields, fields_of}
use Rattle.fields.specs.Tags.{bad_fields}
use Rattle.contents.specs.Contents.{needless, plan_in, readings_in, marks_in}
use Rattle.sheet.specs.Sheet.{refused_with, read_refused, marks_refused}

pub record Admitted (fs : Fields) (p : Plan) (narrow : Bool) : Type 0 where
  pub fields : bad_fields fs ≡ false
  pub plan : plan_refused p ≡ 0
  pub needed : needless fs ≡ false
  pub wide : narrow ≡ false
  pub readings : wrong_readings p (length (readings_in fs)) ≡ false
  pub marks : wrong_rows p (length (marks_in fs)) ≡ false
  pub within : any_beyond (reading_limit p) (readings_in fs) ≡ false
  pub lawful : bad_marks p (marks_in fs) ≡ false

module _ (fs : Fields) (p : Plan) (narrow : Bool) where
  abbrev lengths : Bool
  lengths = wrong_readings p (length (readings_in fs)) || wrong_rows p (length (marks_in fs))

  pub admitted : refused_with fs p narrow ≡ 0 → Admitted fs p narrow
  unfolding refused_with
  admitted e =
      let l1 = passed (bad_fields fs) 1 _ (omega arith) e in
      let q = plan-passed p _ l1.1 in
      let l16 = passed (needless fs) 16 _ (omega arith) q.1 in
      let l11 = passed (narrow || lengths) 11 _ (omega arith) l16.1 in
      let l12 = passed (any_beyond (reading_limit p) (readings_in fs)) 12 _ (omega arith) l11.1 in
      let l13 = passed (bad_marks p (marks_in fs)) 13 _ (omega arith) l12.1 in
      let a = neither narrow lengths l11.0 in
      let b = neither (wrong_readings p (length (readings_in fs))) (wrong_rows p (length (marks_in fs))) a.1 in
      record {
        fields = l1.0;
        plan = q.0;
        needed = l16.0;
        wide = a.0;
        readings = b.0;
        marks = b.1;
        within = l12.0;
        lawful = l13.0;
      }

  pub admits : Admitted fs p narrow → refused_with fs p narrow ≡ 0
  unfolding refused_with
  admits a = rw a.fields (after-plan p _ a.plan ∙ rw (a.needed, a.wide, a.readings, a.marks, a.within, a.lawful) refl)

  pub own-refused : (plan_refused p ≡ 0 → ⊥) → refused_with fs p narrow ≡ cond (bad_fields fs) 1 (plan_refused p)
  unfolding refused_with
  own-refused h = ap (cond (bad_fields fs) 1) (sym (plan-first p _ refl h))

pub read-admitted : (sheet : List ℕ) (room : ℕ) → read_refused sheet room ≡ 0
    → Admitted (fields_of sheet) (plan_in (fields_of sheet)) (ltb room (all_readings (plan_in (fields_of sheet))))
unfolding read_refused
read-admitted sheet room z = admitted (fields_of sheet) (plan_in (fields_of sheet)) (ltb room (all_readings (plan_in (fields_of sheet)))) z

pub marks-admitted : (sheet : List ℕ) → marks_refused sheet ≡ 0 → Admitted (fields_of sheet) (plan_in (fields_of sheet)) false
unfolding marks_refused
marks-admitted sheet z = admitted (fields_of sheet) (plan_in (fields_of sheet)) false z
