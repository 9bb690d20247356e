-- The screening call's number, by that of the table call.
--
--   by-table          the number of an accepted plan: 21, 9, the table call's, and 13 for a marked main effect
--   TableMade         the table call makes the table, the levels are not three, nothing meets, and no main effect is marked
--   table-made        so it is where the number is 0
use Rattle.std.specs.Prelude.{◌≡◌, Bool, ◌||◌, List, ℕ, ℤ, length}
use Rattle.std.proofs.Math.Path.{refl}
use Rattle.std.proofs.Common.{sym, ◌∙◌, arith}
use Rattle.std.proofs.Math.Bool.{true, false, cond}
use borrow.Author.Tests.{eqb-true, eqb-false}
use Rattle.std.proofs.Math.Dec.{eqb}
use Rattle.plan.specs.declared.types.Plan.{Plan}
use Rattle.plan.specs.Check.{plan_refused}
use Rattle.plan.specs.Limits.{reading_limit}
use Rattle.plan.proofs.Laws.Answers.{after-plan, passed, plan-passed}
use Rattle.columns.specs.Refusals.{any_beyond}
use Rattle.rows.specs.Kinds.{bad_marks}
use Rattle.anova.specs.Table.{wrong_lengths, table_refusals, table_refused}
use Rattle.screening.specs.Screening.{meet, marked_main, screen_refusals, screen_refused}

-- the table call's own number of an accepted plan, from the conditions of 11, 12 and 13
abbrev eleven-on : Bool → Bool → Bool → ℕ
eleven-on lengths beyond marks = cond lengths 11 (cond beyond 12 (cond marks 13 0))

-- 11 and 12 come before 13, whichever cause 13 has
either-mark : (lengths beyond marks main : Bool)
    → eleven-on lengths beyond (marks || main) ≡ cond (eqb (eleven-on lengths beyond marks) 0) (cond main 13 0) (eleven-on lengths beyond marks)
either-mark true beyond marks main = refl
either-mark false true marks main = refl
either-mark false false true main = refl
either-mark false false false main = refl

module _ (p : Plan) (readings : List ℤ) (marks : List ℕ) (totals : List ℤ) (rows : List ℕ) where
  pub by-table : plan_refused p ≡ 0
      → screen_refused p readings marks totals rows
      ≡ cond (meet p) 21 (cond (eqb p.levels 3) 9
      (cond (eqb (table_refused p readings marks totals rows) 0) (cond (marked_main p marks) 13 0) (table_refused p readings marks totals rows)))
  unfolding screen_refused table_refused
  by-table ok =
      after-plan p (screen_refusals p readings marks totals rows) ok
      ∙ rw (
        after-plan p (table_refusals p readings marks totals rows) ok,
        either-mark (wrong_lengths p (length readings) (length marks) (length totals) (length rows)) (any_beyond (reading_limit p) readings) (bad_marks p marks) (marked_main p marks),
      )
      refl

  pub record TableMade : Type 0 where
    pub made : table_refused p readings marks totals rows ≡ 0
    pub not_three : p.levels ≡ 3 → ⊥
    pub nothing-meets : meet p ≡ false
    pub none-marked : marked_main p marks ≡ false

  pub table-made : screen_refused p readings marks totals rows ≡ 0 → TableMade
  unfolding screen_refused
  table-made e =
      let ok = (plan-passed p (screen_refusals p readings marks totals rows) e).0 in
      let l21 = passed (meet p) 21 _ (omega arith) (sym (by-table ok) ∙ e) in
      let l9 = passed (eqb p.levels 3) 9 _ (omega arith) l21.1 in
      let l13 = last (table_refused p readings marks totals rows) (marked_main p marks) l9.1 in
      record { made = l13.0; not_three = eqb-false p.levels 3 l9.0; nothing-meets = l21.0; none-marked = l13.1 }
    where
      last : (t : ℕ) (main : Bool) → cond (eqb t 0) (cond main 13 0) t ≡ 0 → (t ≡ 0) × (main ≡ false)
      last t main e = by (eqb t 0) refl e
        where
          by : (b : Bool) → eqb t 0 ≡ b → cond b (cond main 13 0) t ≡ 0 → (t ≡ 0) × (main ≡ false)
          by true d z = (eqb-true t 0 d, (passed main 13 0 (omega arith) z).0)
          by false d z = absurd (eqb-false t 0 d z)
