-- What is refused of a sheet, as the code judges it.
--
--   lengths-not, lengths-by    refusal 11, of readings and marks beside a column that is wide enough
--   bad, by-plan, by-bodies    the number by the fields, by the plan, and by all else
use mathlib.Core.Path.{◌≡◌, refl, ◌∙◌}
use mathlib.Core.Bool.{Bool, true, false, not, ◌||◌, cond}
use mathlib.Core.List.{List}
use Prim.Native.Nat.{ℕ, ◌/◌}
use borrow.Author.Tests.{eq-eqb, ne_eqb}
use lib.Dec.{eqb}
use lib.ListN.{length}
use Rattle.plan.specs.declared.types.Plan.{Plan}
use Rattle.plan.specs.Check.{plan_refused, reading_count}
use Rattle.plan.specs.Limits.{reading_limit}
use Rattle.plan.specs.declared.refusals.Refusal.{Refusal}
use Rattle.plan.specs.Refusals.{number}
use Rattle.plan.proofs.Laws.Answers.{plan_stops, after-plan}
use Rattle.plan.proofs.Laws.Sizes.{reading-count}
use Rattle.columns.specs.Refusals.{wrong_readings, any_beyond}
use Rattle.rows.specs.Kinds.{wrong_rows, bad_marks, row_count}
use Rattle.rows.proofs.Laws.Rows.{rows-by}
use Rattle.fields.specs.Fields.{Fields, body_at}
use Rattle.fields.specs.Tags.{bad_fields}
use Rattle.contents.specs.Contents.{needless, readings_of}
use Rattle.sheet.specs.Sheet.{refused_with}
use Rattle.contents.specs.Laws.Readings.{readings-long}

-- refusal 11, where `narrow` says that the column has too few places
abbrev wrong_lengths : Plan → Bool → ℕ → ℕ → Bool
wrong_lengths p narrow readings marks = narrow || (wrong_readings p readings || wrong_rows p marks)

module _ (p : Plan) (ok : plan_refused p ≡ 0) {narrow : Bool} (wide : narrow ≡ false) {n : ℕ} (count : n ≡ reading_count p) (readings marks : ℕ) where
  readings-by : wrong_readings p readings ≡ not (eqb readings n)
  unfolding wrong_readings
  readings-by = rw (count, reading-count p ok) refl

  pub lengths-not : (readings ≡ n → ⊥) → true ≡ wrong_lengths p narrow readings marks
  lengths-not h = rw (wide, readings-by, ne_eqb readings n h) refl

  pub lengths-by : readings ≡ n → {m : ℕ} → m ≡ row_count p → not (eqb marks m) ≡ wrong_lengths p narrow readings marks
  lengths-by h rows = rw (wide, readings-by, eq-eqb readings n h) (rows-by p ok rows marks)

module _ (fs : Fields) (p : Plan) (narrow : Bool) where
  pub bad : bad_fields fs ≡ true → 1 ≡ refused_with fs p narrow
  unfolding refused_with
  bad e = rw e refl

  pub by-plan : bad_fields fs ≡ false → (r : Refusal) → number r ≡ plan_refused p → number r ≡ refused_with fs p narrow
  unfolding refused_with
  by-plan fine r e = rw fine (plan_stops r p _ e)

-- of an accepted plan, by the bodies b of the readings and m of the marks
pub by-bodies : (fs : Fields) (p : Plan) (narrow : Bool) {b m : List ℕ} → bad_fields fs ≡ false → plan_refused p ≡ 0 → b ≡ body_at 4 0 fs → m ≡ body_at 5 0 fs
    → refused_with fs p narrow
    ≡ cond (needless fs) 16
    (cond (wrong_lengths p narrow (length b / 4) (length m)) 11 (cond (any_beyond (reading_limit p) (readings_of b)) 12 (cond (bad_marks p m) 13 0)))
unfolding refused_with
by-bodies fs p narrow fine ok e f = rw fine (after-plan p _ ok ∙ rw (← e, ← f, readings-long) refl)
