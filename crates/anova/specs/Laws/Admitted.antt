-- What is known of a table that is not refused.
--
--   TableReady p readings marks totals rows    lengths and bounds of a table that is not refused
--   table-admitted                             these, from the number
--   table-admits                               and this is all that is asked, with readings within the limit and marks that are lawful
--   InBlocks p word readings .. rows           such a table of a three-level plan with this block word
--   SumsReady p sums, sums-ready               run sums of an accepted plan within their limit: those of such a table
--   rows-power                                 R is 2 to the power of the number of factors
--   within-limit                               the sum of all numerators of run sums is within the plan's limit of numerators
use Rattle.std.specs.Prelude.{◌≡◌, false, ◌||◌, List, ℕ, ◌*◌, ◌^◌, ◌≤◌, ℤ, length}
use Rattle.std.proofs.Math.Path.{refl}
use Rattle.std.proofs.Common.{◌∙◌, ap, arith}
use borrow.Author.Tests.{eq-eqb}
use Rattle.std.proofs.lemmas.List.{length-replicate}
use Rattle.algebra.specs.Laws.Tests.{neither}
use Rattle.contrasts.specs.Columns.{read, AllWithin}
use Rattle.contrasts.proofs.Factors.{of_levels}
use Rattle.contrasts.specs.Totals.{denominator, squared}
use Rattle.contrasts.proofs.Laws.Limits.{total-fits}
use Rattle.contrasts.proofs.Laws.Repeats.{sums-within}
use Rattle.plan.specs.declared.types.Plan.{Plan}
use Rattle.plan.specs.Check.{plan_refused}
use Rattle.plan.specs.Limits.{reading_limit, run_limit, numerator_limit}
use Rattle.plan.specs.Plan.{factors_of, runs_of, all_readings, run_sums_of, three_word}
use Rattle.plan.proofs.Laws.Answers.{passed, plan-passed, after-plan}
use Rattle.plan.proofs.Laws.Limits.{plan-roomy}
use Rattle.columns.specs.Refusals.{wrong_length, wrong_readings, any_beyond}
use Rattle.columns.specs.Laws.Admitted.{all-within, as_long, all-readings}
use Rattle.rows.specs.Kinds.{rows_in, wrong_rows, bad_marks}
use Rattle.rows.proofs.Laws.Rows.{rows-as-long}
use Rattle.anova.specs.Table.{wrong_lengths, table_refused}

pub record TableReady (p : Plan) (readings : List ℤ) (marks : List ℕ) (totals : List ℤ) (rows : List ℕ) : Type 0 where
  pub plan : plan_refused p ≡ 0
  pub whole : length readings ≡ all_readings p
  pub same : length totals ≡ runs_of p
  pub rows_long : length rows ≡ rows_in p
  pub marks-long : length marks ≡ rows_in p
  pub within : AllWithin (reading_limit p) readings

pub table-admitted : (p : Plan) (readings : List ℤ) (marks : List ℕ) (totals : List ℤ) (rows : List ℕ)
    → table_refused p readings marks totals rows ≡ 0 → TableReady p readings marks totals rows
unfolding table_refused wrong_lengths
table-admitted p readings marks totals rows e =
    let q = plan-passed p _ e in
    let l11 = passed (wrong_lengths p (length readings) (length marks) (length totals) (length rows)) 11 _ (omega arith) q.1 in
    let l12 = passed (any_beyond (reading_limit p) readings) 12 _ (omega arith) l11.1 in
    let a = neither (wrong_readings p (length readings)) (wrong_length p (length totals) || (wrong_rows p (length rows) || wrong_rows p (length marks))) l11.0 in
    let b = neither (wrong_length p (length totals)) (wrong_rows p (length rows) || wrong_rows p (length marks)) a.1 in
    let c = neither (wrong_rows p (length rows)) (wrong_rows p (length marks)) b.1 in
    record {
      plan = q.0;
      whole = all-readings p (length readings) a.0;
      same = as_long p (length totals) b.0;
      rows_long = rows-as-long p (length rows) c.0;
      marks-long = rows-as-long p (length marks) c.1;
      within = all-within (reading_limit p) readings l12.0;
    }

pub record InBlocks (p : Plan) (word : ℕ) (readings : List ℤ) (marks : List ℕ) (totals : List ℤ) (rows : List ℕ) : Type 0 where
  pub ready : TableReady p readings marks totals rows
  pub word-is : word ≡ three_word p
  pub some : word ≡ 0 → ⊥

module _ (p : Plan) (readings : List ℤ) (marks : List ℕ) (totals : List ℤ) (rows : List ℕ) where
  pub table-admits : plan_refused p ≡ 0 → length readings ≡ all_readings p → length totals ≡ runs_of p → length rows ≡ rows_in p → length marks ≡ rows_in p
      → any_beyond (reading_limit p) readings ≡ false → bad_marks p marks ≡ false → table_refused p readings marks totals rows ≡ 0
  unfolding table_refused wrong_lengths wrong_readings wrong_length wrong_rows
  table-admits ok n m r q within lawful =
      after-plan p _ ok
      ∙ rw
      (eq-eqb (length readings) (all_readings p) n, eq-eqb (length totals) (runs_of p) m, eq-eqb (length rows) (rows_in p) r, eq-eqb (length marks) (rows_in p) q, within, lawful)
      refl

-- ---- the run sums

pub record SumsReady (p : Plan) (sums : List ℤ) : Type 0 where
  pub plan : plan_refused p ≡ 0
  pub within : AllWithin (run_limit p) sums

pub sums-ready : {p : Plan} {readings : List ℤ} {marks : List ℕ} {totals : List ℤ} {rows : List ℕ} → TableReady p readings marks totals rows
    → SumsReady p (run_sums_of p readings)
sums-ready {p} {readings} a = record { plan = a.plan; within = sums-within (runs_of p) p.repeats (reading_limit p) readings a.within }

-- ---- sizes

pub rows-power : (p : Plan) → 2 ^ length (factors_of p) ≡ rows_in p
unfolding factors_of
rows-power p = ap (λ n. 2 ^ n) (length-replicate p.k (of_levels p.levels))

pub within-limit : {p : Plan} {sums : List ℤ} → SumsReady p sums → denominator (factors_of p) * squared (factors_of p) (read sums) ≤ numerator_limit p
within-limit {p} {sums} a = total-fits (plan-roomy p a.plan) (read sums) (λ r _. a.within r)
