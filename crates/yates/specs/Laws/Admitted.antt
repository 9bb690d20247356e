-- What is known of a pass call that is not refused, as a record, and that this is all that the call asks.
--
--   pass-ten                                    a factor that is no base factor gives 10
--   PassAdmitted, pass-admitted, pass-admits    from the number, and back
use Rattle.std.specs.Prelude.{◌≡◌, refl, List, ℕ, ◌<◌, ◌≤◌, leb, ℤ, length}
use Rattle.std.proofs.Common.{◌∙◌, arith, le-leb, leb-false}
use Rattle.std.proofs.lemmas.Bool.{lt-leb}
use Rattle.contrasts.specs.Columns.{AllWithin}
use Rattle.contrasts.specs.Limits.{value_limit}
use Rattle.plan.specs.declared.types.Plan.{Plan}
use Rattle.plan.specs.Check.{plan_refused}
use Rattle.plan.specs.Plan.{runs_of}
use Rattle.plan.proofs.Laws.Answers.{passed, plan-passed, after-plan}
use Rattle.columns.specs.Refusals.{wrong_length, any_beyond}
use Rattle.columns.specs.Laws.Admitted.{all-within, none-beyond, as_long, not-wrong}
use Rattle.yates.specs.Calls.{pass_refused}

-- "A call whose factor is not a base factor gives 10"
pub pass-ten : (p : Plan) (f : ℕ) (xs : List ℤ) → plan_refused p ≡ 0 → p.k ≤ f → pass_refused p f xs ≡ 10
unfolding pass_refused
pass-ten p f xs e h = after-plan p _ e ∙ rw (le-leb p.k f h) refl

pub record PassAdmitted (p : Plan) (f : ℕ) (xs : List ℤ) : Type 0 where
  pub plan : plan_refused p ≡ 0
  pub base : f < p.k
  pub whole : length xs ≡ runs_of p
  pub within : AllWithin value_limit xs

pub pass-admitted : (p : Plan) (f : ℕ) (xs : List ℤ) → pass_refused p f xs ≡ 0 → PassAdmitted p f xs
unfolding pass_refused
pass-admitted p f xs e =
    let q = plan-passed p _ e in
    let l10 = passed (leb p.k f) 10 _ (omega arith) q.1 in
    let l11 = passed (wrong_length p (length xs)) 11 _ (omega arith) l10.1 in
    let l12 = passed (any_beyond value_limit xs) 12 _ (omega arith) l11.1 in
    record {
      plan = q.0;
      base = leb-false p.k f l10.0;
      whole = as_long p (length xs) l11.0;
      within = all-within value_limit xs l12.0;
    }

pub pass-admits : {p : Plan} {f : ℕ} {xs : List ℤ} → PassAdmitted p f xs → pass_refused p f xs ≡ 0
unfolding pass_refused
pass-admits {p} {f} {xs} a =
    after-plan p _ a.plan ∙ rw (lt-leb p.k f a.base, not-wrong p (length xs) a.whole, none-beyond value_limit xs a.within) refl
