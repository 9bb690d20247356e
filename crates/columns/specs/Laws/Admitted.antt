-- What is known of columns that are not refused, and that this is all that is asked of them.
--
--   any-placed                                a value is beyond a limit, by its place
--   all-within, none-beyond                   no value is beyond a limit, as a bound and as a test
--   as_long, not-wrong                        the length, as a number and as a test
--   all-readings, not-wrong-readings          and the number of readings
--   Columns, admitted, admits                 a column of N within a limit, and one of N to be written: from the number, and back
--   Readings                                  readings of all runs within the limit, and a column of N to be written
--   readings-admitted, readings-admits        from the number, and back
use Rattle.std.specs.Prelude.{◌≡◌, refl, false, ◌||◌, List, ℕ, eqb, ℤ, pos, nat_abs, length}
use Rattle.std.proofs.Common.{sym, ◌∙◌, arith, eq-eqb, eqb-true, le-ltb, ltb-false}
use Rattle.std.proofs.lemmas.Bool.{not-false}
use Rattle.algebra.specs.Search.{some}
use Rattle.algebra.specs.Laws.Search.{some-false, none-at, some_listed}
use Rattle.algebra.specs.Laws.Tests.{neither}
use Rattle.contrasts.specs.Columns.{read, AllWithin}
use Rattle.contrasts.proofs.Laws.Within.{within-upto}
use Rattle.plan.specs.declared.types.Plan.{Plan}
use Rattle.plan.specs.Check.{plan_refused}
use Rattle.plan.specs.Plan.{runs_of, all_readings}
use Rattle.plan.specs.Limits.{reading_limit, is_beyond}
use Rattle.plan.proofs.Laws.Answers.{passed, plan-passed, after-plan}
use Rattle.columns.specs.Refusals.{wrong_length, wrong_readings, any_beyond, columns_refused, readings_refused}

-- a value beyond the limit, by the places
pub any-placed : (limit : ℕ) (xs : List ℤ) → any_beyond limit xs ≡ some (length xs) (λ i. is_beyond limit (read xs i))
unfolding any_beyond
any-placed limit xs = sym (some_listed (is_beyond limit) (pos 0) xs)

pub all-within : (limit : ℕ) (xs : List ℤ) → any_beyond limit xs ≡ false → AllWithin limit xs
unfolding is_beyond
all-within limit xs e =
    within-upto limit xs (λ i h. ltb-false limit (nat_abs (read xs i)) (none-at (length xs) _ (sym (any-placed limit xs) ∙ e) i h))

pub none-beyond : (limit : ℕ) (xs : List ℤ) → AllWithin limit xs → any_beyond limit xs ≡ false
unfolding is_beyond
none-beyond limit xs w = any-placed limit xs ∙ some-false (length xs) _ (λ i h. le-ltb limit (nat_abs (read xs i)) (w i))

pub as_long : (p : Plan) (n : ℕ) → wrong_length p n ≡ false → n ≡ runs_of p
unfolding wrong_length
as_long p n e = eqb-true n (runs_of p) (not-false (eqb n (runs_of p)) e)

pub not-wrong : (p : Plan) (n : ℕ) → n ≡ runs_of p → wrong_length p n ≡ false
unfolding wrong_length
not-wrong p n e = rw (eq-eqb n (runs_of p) e) refl

pub all-readings : (p : Plan) (n : ℕ) → wrong_readings p n ≡ false → n ≡ all_readings p
unfolding wrong_readings
all-readings p n e = eqb-true n (all_readings p) (not-false (eqb n (all_readings p)) e)

pub not-wrong-readings : (p : Plan) (n : ℕ) → n ≡ all_readings p → wrong_readings p n ≡ false
unfolding wrong_readings
not-wrong-readings p n e = rw (eq-eqb n (all_readings p) e) refl

pub record Columns (limit : ℕ) (p : Plan) (xs ys : List ℤ) : Type 0 where
  pub plan : plan_refused p ≡ 0
  pub whole : length xs ≡ runs_of p
  pub same : length ys ≡ runs_of p
  pub within : AllWithin limit xs

pub admitted : (limit : ℕ) (p : Plan) (xs ys : List ℤ) → columns_refused limit p xs ys ≡ 0 → Columns limit p xs ys
unfolding columns_refused
admitted limit p xs ys e =
    let q = plan-passed p _ e in
    let l11 = passed (wrong_length p (length xs) || wrong_length p (length ys)) 11 _ (omega arith) q.1 in
    let l12 = passed (any_beyond limit xs) 12 _ (omega arith) l11.1 in
    let n = neither (wrong_length p (length xs)) (wrong_length p (length ys)) l11.0 in
    record { plan = q.0; whole = as_long p (length xs) n.0; same = as_long p (length ys) n.1; within = all-within limit xs l12.0 }

pub admits : {limit : ℕ} {p : Plan} {xs ys : List ℤ} → Columns limit p xs ys → columns_refused limit p xs ys ≡ 0
unfolding columns_refused
admits {limit} {p} {xs} {ys} a =
    after-plan p _ a.plan ∙ rw (not-wrong p (length xs) a.whole, not-wrong p (length ys) a.same, none-beyond limit xs a.within) refl

pub record Readings (p : Plan) (xs ys : List ℤ) : Type 0 where
  pub plan : plan_refused p ≡ 0
  pub whole : length xs ≡ all_readings p
  pub same : length ys ≡ runs_of p
  pub within : AllWithin (reading_limit p) xs

pub readings-admitted : (p : Plan) (xs ys : List ℤ) → readings_refused p xs ys ≡ 0 → Readings p xs ys
unfolding readings_refused
readings-admitted p xs ys e =
    let q = plan-passed p _ e in
    let l11 = passed (wrong_readings p (length xs) || wrong_length p (length ys)) 11 _ (omega arith) q.1 in
    let l12 = passed (any_beyond (reading_limit p) xs) 12 _ (omega arith) l11.1 in
    let n = neither (wrong_readings p (length xs)) (wrong_length p (length ys)) l11.0 in
    record { plan = q.0; whole = all-readings p (length xs) n.0; same = as_long p (length ys) n.1; within = all-within (reading_limit p) xs l12.0 }

pub readings-admits : {p : Plan} {xs ys : List ℤ} → Readings p xs ys → readings_refused p xs ys ≡ 0
unfolding readings_refused
readings-admits {p} {xs} {ys} a =
    after-plan p _ a.plan
    ∙ rw (not-wrong-readings p (length xs) a.whole, not-wrong p (length ys) a.same, none-beyond (reading_limit p) xs a.within) refl
