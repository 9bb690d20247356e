-- Room for the figures of a table, and what a call for a table answers and leaves with it and without it.
--
--   room-is                           where there is
--   room-by-plan, room-eleven         the number of a call without room
--   stopped                           a call that stops with its number
--   same-call                         two calls that are one, by their number, plan, readings and marks
--   answered                          the whole call, by what the call for the table answers
--   without-room, with-room           the call that has room for its figures or not
use Rattle.std.specs.Prelude.{Result, Ok, Err, ◌≡◌, false, not, List, [], ◌∷◌, ℕ, eqb, ℤ, length}
use Rattle.std.proofs.Math.Path.{refl, sym}
use Rattle.std.proofs.Common.{◌∙◌, ap, arith}
use Rattle.std.proofs.Math.Bool.{true}
use Rattle.std.proofs.Math.Decide.{ℕ_discrete}
use borrow.Author.Tests.{eqb-true, not-false}
use Rattle.algebra.specs.Laws.Tests.{neither}
use Rattle.contrasts.specs.Columns.{totals_of}
use Rattle.plan.specs.declared.types.Plan.{Plan}
use Rattle.plan.specs.Check.{plan_refused}
use Rattle.plan.proofs.Laws.Answers.{plan-first, after-plan, unwritten, written_new, given_is, refused-is}
use Rattle.plan.specs.declared.refusals.Refusal as refusals
use Rattle.plan.specs.Refusals.{number_of}
use Rattle.plan.specs.Outcome.{refusal, outcome, written}
use Rattle.plan.specs.Plan.{factors_of, run_sums_of}
use Rattle.anova.specs.declared.types.Figures.{Figures}
use Rattle.anova.specs.Table.{table_refused, table_figures, table_outcome, rows_of}
use Rattle.figures.specs.Numbers.{figure_numbers, check_numbers, left_by, wrong_room, room_refused, call_refused, TableLeft}

-- ---- the lengths

module _ (m n : ℕ) where
  pub room-is : wrong_room m n ≡ false → (m ≡ 11) × (n ≡ 2)
  unfolding wrong_room
  room-is e =
      let a = neither (not (eqb m 11)) (not (eqb n 2)) e in
      (eqb-true m 11 (not-false (eqb m 11) a.0), eqb-true n 2 (not-false (eqb n 2) a.1))

-- ---- no room

module _ (p : Plan) where
  pub room-by-plan : {n : ℕ} → n ≡ plan_refused p → (n ≡ 0 → ⊥) → n ≡ room_refused p
  unfolding room_refused
  room-by-plan e h = plan-first p (refusal 11 true ∷ []) e h

  pub room-eleven : plan_refused p ≡ 0 → 11 ≡ room_refused p
  unfolding room_refused
  room-eleven e = sym (after-plan p (refusal 11 true ∷ []) e)

  room-stopped : room_refused p ≡ 0 → ⊥
  room-stopped e = by (ℕ_discrete (plan_refused p) 0)
    where
      by : Dec (plan_refused p ≡ 0) → ⊥
      by (yes d) = absurd (omega (arith, room-eleven d, e))
      by (no d) = d (room-by-plan refl d ∙ e)

-- ---- the whole call

module _ {m : ℕ} {p : Plan} {readings : List ℤ} {marks : List ℕ} {totals : List ℤ} {rows figures : List ℕ} {checks : List ℤ} where
  pub stopped : {n : ℕ} → n ≡ m → (n ≡ 0 → ⊥) → TableLeft m p readings marks totals rows figures checks n totals rows figures checks
  stopped e h =
      let none : m ≡ 0 → ⊥ = λ z. h (e ∙ z) in
      record {
        number = e;
        totals-left = unwritten m (totals_of (factors_of p) (run_sums_of p readings)) totals none;
        rows_left = unwritten m (rows_of p (run_sums_of p readings)) rows none;
        figures-left = unwritten m (figure_numbers (table_figures p readings marks)) figures none;
        checks-left = unwritten m (check_numbers (table_figures p readings marks)) checks none;
      }

  pub same-call : {d : ℕ} {q : Plan} {xs : List ℤ} {ms : List ℕ} → m ≡ d → p ≡ q → readings ≡ xs → marks ≡ ms
      → {n : ℕ} {ts : List ℤ} {rs fs : List ℕ} {cs : List ℤ}
      → TableLeft m p readings marks totals rows figures checks n ts rs fs cs → TableLeft d q xs ms totals rows figures checks n ts rs fs cs
  same-call number plan values kinds h = rw (← number, ← plan, ← values, ← kinds) h

-- ---- by its answer

module _ {m : ℕ} {p : Plan} {readings : List ℤ} {marks : List ℕ} {totals : List ℤ} {rows figures : List ℕ} {checks : List ℤ} {ts : List ℤ} {rs : List ℕ}
    (t : ts ≡ written m (totals_of (factors_of p) (run_sums_of p readings)) totals) (r : rs ≡ written m (rows_of p (run_sums_of p readings)) rows) where
  pub answered : (answer : Result Figures refusals.Refusal) → table_outcome answer ≡ outcome m (table_figures p readings marks)
      → {n : ℕ} → n ≡ number_of answer → {fs : List ℕ} → fs ≡ left_by answer figure_numbers figures → {cs : List ℤ} → cs ≡ left_by answer check_numbers checks
      → TableLeft m p readings marks totals rows figures checks n ts rs fs cs
  answered (Ok f) told is numbers sums =
      let v = table_figures p readings marks in
      let made = given_is m v told in
      record {
        number = is ∙ sym made.0;
        totals-left = t;
        rows_left = r;
        figures-left = numbers ∙ ap figure_numbers made.1 ∙ written_new m (figure_numbers v) figures made.0;
        checks-left = sums ∙ ap check_numbers made.1 ∙ written_new m (check_numbers v) checks made.0;
      }
  answered (Err e) told is numbers sums =
      let v = table_figures p readings marks in
      let none = refused-is m v told in
      record {
        number = is ∙ none.0;
        totals-left = t;
        rows_left = r;
        figures-left = numbers ∙ unwritten m (figure_numbers v) figures none.1;
        checks-left = sums ∙ unwritten m (check_numbers v) checks none.1;
      }

-- ---- by its room

module _ {p : Plan} {readings : List ℤ} {marks : List ℕ} {totals : List ℤ} {rows figures : List ℕ} {checks : List ℤ} where
  pub without-room : wrong_room (length figures) (length checks) ≡ true → {n : ℕ} → n ≡ room_refused p
      → TableLeft (call_refused p readings marks totals rows figures checks) p readings marks totals rows figures checks n totals rows figures checks
  unfolding call_refused
  without-room w e = stopped (e ∙ rw w refl) (λ z. room-stopped p (sym e ∙ z))

  pub with-room : wrong_room (length figures) (length checks) ≡ false → {n : ℕ} {ts : List ℤ} {rs fs : List ℕ} {cs : List ℤ}
      → TableLeft (table_refused p readings marks totals rows) p readings marks totals rows figures checks n ts rs fs cs
      → TableLeft (call_refused p readings marks totals rows figures checks) p readings marks totals rows figures checks n ts rs fs cs
  unfolding call_refused
  with-room w h = rw w h
