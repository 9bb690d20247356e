-- What the screening call answers with the columns that it is lent.
--
--   lent-made, lent-stopped    the number of a table that is made, and of one that is refused
use Rattle.std.specs.Prelude.{Result, Ok, Err, ◌≡◌, refl, List, ℕ, ℤ, pos, length, take, replicate}
use Rattle.std.proofs.Common.{sym, ap, ◌∙◌}
use Rattle.std.proofs.lemmas.List.{length-replicate}
use Rattle.plan.specs.declared.types.Plan.{Plan}
use Rattle.plan.specs.declared.refusals.Refusal.{Refusal}
use Rattle.plan.specs.Outcome.{outcome}
use Rattle.plan.specs.Refusals.{number as number_of}
use Rattle.plan.specs.Check.{run_count, reading_count, plan_refused}
use Rattle.plan.specs.Plan.{runs_of, all_readings}
use Rattle.plan.proofs.Laws.Answers.{given_is, refused-is}
use Rattle.rows.specs.Kinds.{rows_in, row_count}
use Rattle.anova.specs.declared.types.Figures.{Figures}
use Rattle.anova.specs.Table.{table_figures, table_outcome}
use Rattle.screening.specs.Screening.{screen_refused}
use Rattle.printing.specs.Laws.Tables.{runs-are, readings-are, rows-count}
use Rattle.screentab.specs.Screened.{lent_refused}

-- of totals and rows the lengths alone count
same-lengths : (p : Plan) (readings : List ℤ) (marks : List ℕ) (totals others : List ℤ) (rows those : List ℕ)
    → length totals ≡ length others → length rows ≡ length those
    → screen_refused p readings marks totals rows ≡ screen_refused p readings marks others those
unfolding screen_refused
same-lengths p readings marks totals others rows those d e = rw (d, e) refl

module _ (p : Plan) (ok : plan_refused p ≡ 0) {n m r : ℕ} (d : n ≡ run_count p) (f : m ≡ reading_count p) (e : r ≡ row_count p)
    (column : List ℤ) (marks : List ℕ) (totals : List ℤ) (rows : List ℕ) (long : length totals ≡ n) (wide : length rows ≡ r) where
  abbrev number : ℕ
  number = screen_refused p (take m column) marks totals rows

  number_is : number ≡ lent_refused p (take (all_readings p) column) marks
  number_is =
      ap (λ k. screen_refused p (take k column) marks totals rows) (readings-are p ok f)
      ∙ same-lengths p (take (all_readings p) column) marks totals (replicate (runs_of p) (pos 0)) rows (replicate (rows_in p) 0)
      (long ∙ runs-are p ok d ∙ sym (length-replicate (runs_of p) (pos 0)))
      (wide ∙ rows-count p ok e ∙ sym (length-replicate (rows_in p) 0))

  module _ {answer : Result Figures Refusal} (told : table_outcome answer ≡ outcome number (table_figures p (take m column) marks)) where
    pub lent-made : {g : Figures} → answer ≡ Ok g → 0 ≡ lent_refused p (take (all_readings p) column) marks
    lent-made is = sym (given_is number (table_figures p (take m column) marks) (ap table_outcome (sym is) ∙ told)).0 ∙ number_is

    pub lent-stopped : {q : Refusal} → answer ≡ Err q → number_of q ≡ lent_refused p (take (all_readings p) column) marks
    lent-stopped is = (refused-is number (table_figures p (take m column) marks) (ap table_outcome (sym is) ∙ told)).0 ∙ number_is
