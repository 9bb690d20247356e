-- What is judged on the way is what the call promises.
--
--   Lengths                 an accepted plan, and two columns of N places
--   judged-lengths          so they are where the plan and the lengths give no number
--   by-readings             the number of the call is then 14 or none, by whether there are readings
--   beyond                  totals beyond what a pass admits are those of no readings
--   Recovered, recovered    what is known of a call that is done
--   recovers                where the lengths are right, any fitting column is what is recovered
use Rattle.std.specs.Prelude.{◌≡◌, refl, Bool, true, false, cond, ◌||◌, List, ℤ, length}
use Rattle.std.proofs.Common.{sym, ◌∙◌, true≢false, arith}
use Rattle.algebra.specs.Laws.Tests.{neither}
use Rattle.contrasts.specs.Columns.{read, AllWithin, totals_of}
use Rattle.contrasts.specs.Limits.{value_limit}
use Rattle.contrasts.specs.Recovery.{readings_back, no_readings}
use Rattle.contrasts.specs.Totals.{total}
use Rattle.contrasts.proofs.Laws.Limits.{totals-fit}
use Rattle.contrasts.proofs.Laws.Recovery.{Fitting, back_found, back-every}
use Rattle.contrasts.proofs.Laws.Within.{within-tab}
use Rattle.plan.specs.declared.types.Plan.{Plan}
use Rattle.plan.specs.Check.{plan_refused}
use Rattle.plan.specs.Limits.{run_limit}
use Rattle.plan.specs.Plan.{factors_of, runs_of}
use Rattle.plan.proofs.Laws.Answers.{passed, plan-passed, after-plan}
use Rattle.plan.proofs.Laws.Limits.{plan-roomy}
use Rattle.columns.specs.Refusals.{wrong_length, lengths_refused, any_beyond}
use Rattle.columns.specs.Laws.Admitted.{none-beyond, as_long, not-wrong}
use Rattle.columns.specs.Laws.Lengths.{by-none}
use Rattle.recovery.specs.Calls.{recover_refused}

pub record Lengths (p : Plan) (ts column : List ℤ) : Type 0 where
  pub plan : plan_refused p ≡ 0
  pub whole : length ts ≡ runs_of p
  pub same : length column ≡ runs_of p

-- so it is where the plan and the lengths give no number
pub judged-lengths : (p : Plan) (ts column : List ℤ) → lengths_refused p (wrong_length p (length ts) || wrong_length p (length column)) ≡ 0
    → Lengths p ts column
judged-lengths p ts column e =
    let q = by-none p (wrong_length p (length ts) || wrong_length p (length column)) e in
    let n = neither (wrong_length p (length ts)) (wrong_length p (length column)) q.1 in
    record { plan = q.0; whole = as_long p (length ts) n.0; same = as_long p (length column) n.1 }

pub by-readings : {p : Plan} {ts column : List ℤ} → Lengths p ts column
    → recover_refused p ts column ≡ cond (no_readings (factors_of p) (run_limit p) ts) 14 0
unfolding recover_refused
by-readings {p} {ts} {column} l =
    after-plan p _ l.plan ∙ rw (not-wrong p (length ts) l.whole, not-wrong p (length column) l.same) refl

-- what readings within the limit come to is what a pass admits
totals-admitted : (p : Plan) (ts ys : List ℤ) → plan_refused p ≡ 0 → Fitting (factors_of p) (run_limit p) ts ys → AllWithin value_limit ts
unfolding totals_of
totals-admitted p ts ys ok f =
    rw (← f.same) (within-tab (runs_of p) value_limit (total (factors_of p) (read ys)) (totals-fit (plan-roomy p ok).passable (read ys) (λ r _. f.small r)))

pub beyond : {p : Plan} {ts column : List ℤ} → Lengths p ts column → any_beyond value_limit ts ≡ true → no_readings (factors_of p) (run_limit p) ts ≡ true
beyond {p} {ts} l e = by (no_readings (factors_of p) (run_limit p) ts) refl
  where
    by : (b : Bool) → no_readings (factors_of p) (run_limit p) ts ≡ b → no_readings (factors_of p) (run_limit p) ts ≡ true
    by true d = d
    by false d =
        let f = back_found (factors_of p) (run_limit p) ts l.whole d in
        absurd (true≢false (sym e ∙ none-beyond value_limit ts (totals-admitted p ts (readings_back (factors_of p) ts) l.plan f)))

pub record Recovered (p : Plan) (ts column : List ℤ) : Type 0 where
  pub lengths : Lengths p ts column
  pub fitting : Fitting (factors_of p) (run_limit p) ts (readings_back (factors_of p) ts)

pub recovered : (p : Plan) (ts column : List ℤ) → recover_refused p ts column ≡ 0 → Recovered p ts column
unfolding recover_refused
recovered p ts column e =
    let q = plan-passed p _ e in
    let l11 = passed (wrong_length p (length ts) || wrong_length p (length column)) 11 _ (omega arith) q.1 in
    let l14 = passed (no_readings (factors_of p) (run_limit p) ts) 14 _ (omega arith) l11.1 in
    let n = neither (wrong_length p (length ts)) (wrong_length p (length column)) l11.0 in
    let whole = as_long p (length ts) n.0 in
    record {
      lengths = record { plan = q.0; whole = whole; same = as_long p (length column) n.1 };
      fitting = back_found (factors_of p) (run_limit p) ts whole l14.0;
    }

pub recovers : {p : Plan} {ts column : List ℤ} → Lengths p ts column → {ys : List ℤ} → Fitting (factors_of p) (run_limit p) ts ys
    → (recover_refused p ts column ≡ 0) × (readings_back (factors_of p) ts ≡ ys)
recovers {p} {ts} l {ys} f =
    let b = back-every (factors_of p) (run_limit p) ts ys f in
    (by-readings l ∙ rw b.0 refl, b.1)
