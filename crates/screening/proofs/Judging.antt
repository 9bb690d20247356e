-- What the screening call refuses, as the code judges it.
--
--   formed                             the words that the code forms are those of the plan's factors
--   judged_meet, judged_marked         what the code's tests of the factors' words say
--   meeting, three_levels              the numbers of the profile
--   table_stops                        the table call's number
--   by_main                            where that is 0, the number by a marked main effect
--   screen-stopped, screen-completed   a call that is refused, and one that is not
use mathlib.Core.Path.{◌≡◌, refl, sym, ap, ◌∙◌}
use mathlib.Core.Bool.{Bool, true, false, cond}
use mathlib.Core.List.{List}
use Prim.Native.Nat.{ℕ, ◌+◌, ◌^◌}
use lib.IntN.{ℤ}
use lib.ListN.{length}
use Rattle.algebra.specs.Tab.{tab}
use Rattle.aliases.specs.Alias.{base_word}
use Rattle.words.specs.Words.{any}
use Rattle.contrasts.specs.Columns.{totals_of}
use Rattle.plan.specs.declared.types.Plan.{Plan}
use Rattle.plan.specs.Check.{plan_refused}
use Rattle.plan.specs.Outcome.{Outcome, refused, outcome}
use Rattle.plan.specs.Plan.{added_words, factors_of, run_sums_of}
use Rattle.plan.specs.declared.refusals.Refusal.{Refusal}
use Rattle.plan.specs.Refusals.{number}
use Rattle.plan.proofs.Laws.Answers.{number_some, stops}
use Rattle.std.proofs.Common.{ne_eqb}
use Rattle.rows.specs.Kinds.{marked}
use Rattle.anova.specs.declared.types.Figures.{Figures}
use Rattle.anova.specs.Table.{table_refused, table_figures, table_totals, table_rows, rows_of}
use Rattle.screening.specs.Screening.{main_words, meet, marked_main, screen_refused, screen_totals, screen_rows}
use Rattle.screening.specs.Inner.Formed.{some_pair}
use Rattle.screening.proofs.Laws.Admitted.{by-table, table-made}
use Rattle.screening.proofs.Laws.Words.{meet-pairs}

pub formed : (p : Plan) (k : ℕ) (words mains : List ℕ) → k ≡ p.k → words ≡ added_words p
    → mains ≡ tab (k + length words) (λ i. base_word k words (2 ^ i)) → mains ≡ main_words p
formed p k words mains a b e = e ∙ rw (a, b) refl

module _ (p : Plan) {mains : List ℕ} (are : mains ≡ main_words p) where
  pub judged_meet : {met : Bool} → met ≡ some_pair mains mains → met ≡ meet p
  judged_meet m = m ∙ ap (λ (ws : List ℕ). some_pair ws ws) are ∙ sym (meet-pairs p)

  pub judged_marked : (marks : List ℕ) {main : Bool} → main ≡ any (marked marks) mains → main ≡ marked_main p marks
  unfolding marked_main
  judged_marked marks m = m ∙ ap (any (marked marks)) are

module _ (p : Plan) (ok : plan_refused p ≡ 0) (readings : List ℤ) (marks : List ℕ) (totals : List ℤ) (rows : List ℕ) where
  pub meeting : meet p ≡ true → 21 ≡ screen_refused p readings marks totals rows
  meeting m = sym (by-table p readings marks totals rows ok ∙ rw m refl)

  module _ (m : meet p ≡ false) where
    pub three_levels : p.levels ≡ 3 → 9 ≡ screen_refused p readings marks totals rows
    three_levels l = sym (by-table p readings marks totals rows ok ∙ rw (m, l) refl)

    module _ (l : p.levels ≡ 3 → ⊥) where
      pub table_stops : (r : Refusal) → number r ≡ table_refused p readings marks totals rows → number r ≡ screen_refused p readings marks totals rows
      table_stops r e = sym (by-table p readings marks totals rows ok ∙ rw (m, ne_eqb p.levels 3 l, ← e, ne_eqb (number r) 0 (number_some r)) refl)

      pub by_main : 0 ≡ table_refused p readings marks totals rows → {main : Bool} → marked_main p marks ≡ main
          → cond main 13 0 ≡ screen_refused p readings marks totals rows
      by_main e k = sym (by-table p readings marks totals rows ok ∙ rw (m, ne_eqb p.levels 3 l, ← e, k) refl)

-- ---- the whole call

module _ (p : Plan) (readings : List ℤ) (marks : List ℕ) (totals : List ℤ) (rows : List ℕ) where
  -- what the call promises of its answer and of the two slices
  abbrev Told : Outcome Figures → List ℤ → List ℕ → Type 0
  Told answer ts rs = record {
    result_value : answer ≡ outcome (screen_refused p readings marks totals rows) (table_figures p readings marks);
    totals_after : ts ≡ screen_totals p readings marks totals rows;
    rows_after : rs ≡ screen_rows p readings marks totals rows;
  }

  pub screen-stopped : (r : Refusal) → number r ≡ screen_refused p readings marks totals rows → Told (refused (number r)) totals rows
  unfolding screen_totals screen_rows
  screen-stopped r e =
      let s = stops r (table_figures p readings marks) (totals_of (factors_of p) (run_sums_of p readings)) totals e in
      record { result_value = s.0; totals_after = s.1; rows_after = (stops r (table_figures p readings marks) (rows_of p (run_sums_of p readings)) rows e).1 }

  pub screen-completed : screen_refused p readings marks totals rows ≡ 0 → {answer : Outcome Figures} {ts : List ℤ} {rs : List ℕ}
      → answer ≡ outcome (table_refused p readings marks totals rows) (table_figures p readings marks)
      → ts ≡ table_totals p readings marks totals rows → rs ≡ table_rows p readings marks totals rows → Told answer ts rs
  unfolding screen_totals screen_rows table_totals table_rows
  screen-completed z f t r =
      let same : table_refused p readings marks totals rows ≡ screen_refused p readings marks totals rows
      = (table-made p readings marks totals rows z).made ∙ sym z in
      record { result_value = f ∙ rw same refl; totals_after = t ∙ rw same refl; rows_after = r ∙ rw same refl }
