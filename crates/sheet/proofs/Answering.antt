-- The answers of the two calls.
--
--   marks-refused, read-refused   their numbers, as the code forms them
--   read-stopped                  a reader's call that is refused
--   room_for, same_size           the column of one that is not
--   read-completed                such a call
--   marks-stopped, marks-given    the marks call
use mathlib.Core.Path.{◌≡◌, refl, sym, ap, ◌∙◌}
use mathlib.Core.Bool.{false}
use mathlib.Core.List.{List, [], ◌++◌}
use Prim.Native.Nat.{ℕ, ◌/◌, ◌≤◌}
use native.Mathlib.Omega.{arith}
use borrow.Author.Tests.{ltb-false}
use lib.Dec.{ltb}
use lib.IntN.{ℤ}
use lib.ListN.{length, drop, length-append, length-drop}
use Rattle.plan.specs.declared.types.Plan.{Plan}
use Rattle.plan.specs.Check.{reading_count}
use Rattle.plan.specs.Outcome.{Outcome, given, refused, outcome}
use Rattle.plan.specs.Plan.{factors_of, all_readings}
use Rattle.plan.specs.declared.refusals.Refusal.{Refusal}
use Rattle.plan.specs.Refusals.{number}
use Rattle.plan.proofs.Laws.Answers.{stops, number_some, completed, unwritten, written_new}
use Rattle.plan.proofs.Laws.Sizes.{reading-count}
use Rattle.columns.specs.Laws.Admitted.{all-readings}
use Rattle.fields.specs.Fields.{fields_of, body_at}
use Rattle.contents.specs.Contents.{plan_in, readings_of, readings_in, marks_in}
use Rattle.sheet.specs.Sheet.{refused_with, read_refused, no_plan, read_plan, read_column, marks_refused, marks_of}
use Rattle.contents.specs.Held.{held}
use Rattle.contents.specs.Laws.Readings.{readings-long}
use Rattle.sheet.specs.Laws.Admitted.{read-admitted}
use Rattle.sheet.specs.Laws.Holding.{held_with, narrow-by}
use Rattle.contents.specs.Laws.Holding.{held_all}

module _ (sheet : List ℕ) {p : Plan} (is : p ≡ held (plan_in (fields_of sheet))) where
  pub marks-refused : {n : ℕ} → n ≡ refused_with (fields_of sheet) p false → n ≡ marks_refused sheet
  unfolding marks_refused
  marks-refused e = e ∙ ap (λ q. refused_with (fields_of sheet) q false) is ∙ held_with (fields_of sheet) (plan_in (fields_of sheet)) false

  pub read-refused : (room : ℕ) {m n : ℕ} → m ≡ reading_count p → n ≡ refused_with (fields_of sheet) p (ltb room m) → n ≡ read_refused sheet room
  unfolding read_refused held factors_of
  read-refused room r e =
      let q = held (plan_in (fields_of sheet)) in
      e
      ∙ ap (λ i. refused_with (fields_of sheet) p (ltb room i)) r
      ∙ ap (λ x. refused_with (fields_of sheet) x (ltb room (reading_count x))) is
      ∙ narrow-by (fields_of sheet) q (ltb room (reading_count q)) (ltb room (all_readings q)) (λ z. ap (ltb room) (reading-count q z))
      ∙ held_with (fields_of sheet) (plan_in (fields_of sheet)) (ltb room (all_readings (plan_in (fields_of sheet))))

-- ---- the reader

module _ (sheet : List ℕ) (column : List ℤ) where
  -- what the call promises of its answer, of the plan and of the column
  abbrev Told : Outcome Unit → Plan → List ℤ → Type 0
  Told answer plan after =
      (answer ≡ outcome (read_refused sheet (length column)) tt)
      × ((plan ≡ read_plan sheet (length column)) × (after ≡ read_column sheet column))

  pub read-stopped : (r : Refusal) → number r ≡ read_refused sheet (length column) → Told (refused (number r)) no_plan column
  unfolding read_plan read_column
  read-stopped r e =
      let s = stops r tt (readings_in (fields_of sheet) ++ drop (length (readings_in (fields_of sheet))) column) column e in
      (s.0, (unwritten (read_refused sheet (length column)) (plan_in (fields_of sheet)) no_plan (λ d. number_some r (e ∙ d)), s.1))

  module _ (z : read_refused sheet (length column) ≡ 0) where
    module _ {body : List ℕ} (is : body ≡ body_at 4 0 (fields_of sheet)) where
      pub room_for : length body / 4 ≤ length column
      room_for =
          let a = read-admitted sheet (length column) z in
          let n : length (readings_of body) ≡ all_readings (plan_in (fields_of sheet)) = rw is (all-readings (plan_in (fields_of sheet)) (length (readings_in (fields_of sheet))) a.readings) in
          rw (← (readings-long body), n) (ltb-false (length column) (all_readings (plan_in (fields_of sheet))) a.wide)

      -- the readings are put into the first places
      module _ {part : List ℤ} (put : part ≡ readings_of body) where
        pub same_size : length (part ++ drop (length body / 4) column) ≡ length column
        same_size = rw (put, length-append, readings-long, length-drop) (omega (arith, room_for))

        pub read-completed : {plan : Plan} → plan ≡ held (plan_in (fields_of sheet)) → Told (given tt) plan (part ++ drop (length body / 4) column)
        unfolding read_plan read_column
        read-completed q =
            let rs = readings_in (fields_of sheet) in
            let made : part ++ drop (length body / 4) column ≡ rs ++ drop (length rs) column = rw (put, ← (readings-long body), is) refl in
            let s = completed tt (rs ++ drop (length rs) column) column z made in
            let all = held_all (plan_in (fields_of sheet)) (read-admitted sheet (length column) z).plan in
            (s.0, (q ∙ all ∙ written_new (read_refused sheet (length column)) (plan_in (fields_of sheet)) no_plan z, s.1))

-- ---- the marks call

module _ (sheet : List ℕ) where
  pub marks-stopped : (r : Refusal) → number r ≡ marks_refused sheet → [] ≡ marks_of sheet
  unfolding marks_of
  marks-stopped r e = unwritten (marks_refused sheet) (marks_in (fields_of sheet)) [] (λ d. number_some r (e ∙ d))

  pub marks-given : 0 ≡ marks_refused sheet → {part : List ℕ} → part ≡ body_at 5 0 (fields_of sheet) → part ≡ marks_of sheet
  unfolding marks_of
  marks-given e q = q ∙ written_new (marks_refused sheet) (marks_in (fields_of sheet)) [] (sym e)
