-- Laws on the answers of calls that take a plan.
--
--   plan-first         a plan's own number comes before the further refusals of a call
--   refused-by-plan    and it is the answer's
--   after-plan         those refusals count where the plan has none
--   passed             a refusal that gives no number does not apply, and those after it give none
--   plan-passed        a call that gives no number has a plan that is accepted, and further refusals that give none
--   refused-with       the answer of a number that is not 0
--   given-with         and of 0
--   unwritten          with a number that is not 0 a lent slice is as it was
--   written_new        and with 0 it is what the call makes
--   stopped            a call that stops with its number answers that and leaves a lent slice as it was
--   completed          a call without a number answers that it is done and leaves what it makes
--   given_is           an answer that is given has the number 0, and the values
--   refused-is         and one that is refused has its number
--   refused-of         the number of an answer is the number that it was made of
--   number_some        a refusal's number is not 0
--   plan_stops         where the plan is refused a call's number is the plan's
--   refused_first      and its refusal is the answer
--   by_number          an answer with no values, by its number
--   number_by          and back
--   refused_by         a refusal is the answer of its number
--   left_alone         and leaves a lent slice as it was
--   stops              both
use Rattle.std.specs.Prelude.{Result, Ok, Err, ◌≡◌, refl, Bool, true, false, cond, List, ℕ, ◌<◌}
use Rattle.std.proofs.Common.{sym, ap, ◌∙◌, true≢false, arith, eq-eqb, ne_eqb}
use Rattle.std.proofs.Math.Decide.{ℕ_discrete}
use Rattle.plan.specs.declared.types.Plan.{Plan}
use Rattle.plan.specs.Outcome.{Refusal, lowest, Outcome, given, refused, outcome, written, refused_of}
use Rattle.plan.specs.declared.refusals.Refusal as refusals
use Rattle.plan.specs.declared.refusals.Refusal.TheVariants as refusal
use Rattle.plan.specs.Refusals.{number, number_of, outcome_by}
use Rattle.plan.specs.Check.{plan_refused, with_plan}

pub refused-with : {A : Type 0} (n : ℕ) (v : A) → (n ≡ 0 → ⊥) → outcome n v ≡ refused n
refused-with n v h = rw (ne_eqb n 0 h)

pub given-with : {A : Type 0} (n : ℕ) (v : A) → n ≡ 0 → outcome n v ≡ given v
given-with n v e = rw (eq-eqb n 0 e)

pub unwritten : {A : Type 0} (n : ℕ) (new old : A) → (n ≡ 0 → ⊥) → old ≡ written n new old
unwritten n new old h = rw (ne_eqb n 0 h)

pub written_new : {A : Type 0} (n : ℕ) (new old : A) → n ≡ 0 → new ≡ written n new old
written_new n new old e = rw (eq-eqb n 0 e)

pub after-plan : (p : Plan) (further : List Refusal) → plan_refused p ≡ 0 → with_plan p further ≡ lowest further
unfolding with_plan
after-plan p further e = rw (eq-eqb (plan_refused p) 0 e)

pub plan-first : (p : Plan) (further : List Refusal) {n : ℕ} → n ≡ plan_refused p → (n ≡ 0 → ⊥) → n ≡ with_plan p further
unfolding with_plan
plan-first p further {n} e h = rw (← e, ne_eqb n 0 h)

pub passed : (b : Bool) (n m : ℕ) → 0 < n → cond b n m ≡ 0 → (b ≡ false) × (m ≡ 0)
passed true n m h e = absurd (omega (arith, h, e))
passed false n m h e = (refl, e)

pub plan-passed : (p : Plan) (further : List Refusal) → with_plan p further ≡ 0 → (plan_refused p ≡ 0) × (lowest further ≡ 0)
unfolding with_plan
plan-passed p further e = by (ℕ_discrete (plan_refused p) 0)
  where
    by : Dec (plan_refused p ≡ 0) → (plan_refused p ≡ 0) × (lowest further ≡ 0)
    by (yes d) = (d, sym (after-plan p further d) ∙ e)
    by (no d) = absurd (d (plan-first p further refl d ∙ e))

pub refused-by-plan : {A : Type 0} (p : Plan) (further : List Refusal) (v : A) {n : ℕ} → n ≡ plan_refused p → (n ≡ 0 → ⊥)
    → refused n ≡ outcome (with_plan p further) v
refused-by-plan p further v {n} e h = rw (← (plan-first p further e h)) (sym (refused-with n v h))

module _ {A B : Type 0} {m : ℕ} (v : B) (new old : A) where
  pub stopped : {n : ℕ} → n ≡ m → (n ≡ 0 → ⊥) → (refused n ≡ outcome m v) × (old ≡ written m new old)
  stopped {n} e h = (rw (← e) (sym (refused-with n v h)), rw (← e) (unwritten n new old h))

  pub completed : m ≡ 0 → {made : A} → made ≡ new → (given v ≡ outcome m v) × (made ≡ written m new old)
  completed e d = (sym (given-with m v e), d ∙ written_new m new old e)

pub refused-of : {A : Type 0} (n : ℕ) (v : A) → refused_of (outcome n v) ≡ n
refused-of n v = by (ℕ_discrete n 0)
  where
    by : Dec (n ≡ 0) → refused_of (outcome n v) ≡ n
    by (yes e) = rw (eq-eqb n 0 e) (sym e)
    by (no e) = rw (ne_eqb n 0 e) refl

abbrev is_given : {A : Type 0} → Outcome A → Bool
is_given (given v) = true
is_given (refused n) = false

abbrev value_or : {A : Type 0} → A → Outcome A → A
value_or d (given v) = v
value_or d (refused n) = d

module _ {A : Type 0} (m : ℕ) (v : A) where
  pub given_is : {f : A} → given f ≡ outcome m v → (m ≡ 0) × (f ≡ v)
  given_is {f} e =
      let z : m ≡ 0 = sym (refused-of m v) ∙ ap refused_of (sym e) in
      (z, ap (value_or f) (e ∙ given-with m v z))

  pub refused-is : {n : ℕ} → refused n ≡ outcome m v → (n ≡ m) × (m ≡ 0 → ⊥)
  refused-is e = (ap refused_of e ∙ refused-of m v, λ z. true≢false (sym (ap is_given (e ∙ given-with m v z))))

-- ---- refusals by name

pub number_some : (r : refusals.Refusal) → number r ≡ 0 → ⊥
number_some refusal.Sheet e = omega (arith, e)
number_some refusal.Levels e = omega (arith, e)
number_some refusal.Factors e = omega (arith, e)
number_some refusal.Counts e = omega (arith, e)
number_some refusal.Word e = omega (arith, e)
number_some refusal.SameWord e = omega (arith, e)
number_some refusal.Dependent e = omega (arith, e)
number_some refusal.LostFactor e = omega (arith, e)
number_some refusal.ThreeLevels e = omega (arith, e)
number_some refusal.NotInPlan e = omega (arith, e)
number_some refusal.Length e = omega (arith, e)
number_some refusal.Beyond e = omega (arith, e)
number_some refusal.Marks e = omega (arith, e)
number_some refusal.NoReadings e = omega (arith, e)
number_some refusal.Repeats e = omega (arith, e)
number_some refusal.WordCount e = omega (arith, e)
number_some refusal.Room e = omega (arith, e)
number_some refusal.Meeting e = omega (arith, e)

pub plan_stops : (r : refusals.Refusal) (p : Plan) (further : List Refusal) → number r ≡ plan_refused p → number r ≡ with_plan p further
plan_stops r p further e = plan-first p further e (number_some r)

pub by_number : (answer : Result Unit refusals.Refusal) {n : ℕ} → number_of answer ≡ n → outcome_by (λ v. v) answer ≡ outcome n tt
by_number (Ok v) e = rw (← e) refl
by_number (Err r) e = rw (← e) (sym (refused-with (number r) tt (number_some r)))

pub number_by : (answer : Result Unit refusals.Refusal) {n : ℕ} → outcome_by (λ v. v) answer ≡ outcome n tt → number_of answer ≡ n
number_by (Ok v) {n} e = sym (given_is n tt e).0
number_by (Err r) {n} e = (refused-is n tt e).0

pub refused_by : {B : Type 0} (r : refusals.Refusal) {n : ℕ} (v : B) → number r ≡ n → refused (number r) ≡ outcome n v
refused_by r v e = rw (← e) (sym (refused-with (number r) v (number_some r)))

pub left_alone : {A : Type 0} (r : refusals.Refusal) {n : ℕ} (new old : A) → number r ≡ n → old ≡ written n new old
left_alone r {n} new old e = unwritten n new old (λ z. number_some r (e ∙ z))

pub stops : {A B : Type 0} (r : refusals.Refusal) {n : ℕ} (v : B) (new old : A) → number r ≡ n → (refused (number r) ≡ outcome n v) × (old ≡ written n new old)
stops r v new old e = stopped v new old e (number_some r)

pub refused_first : {B : Type 0} (r : refusals.Refusal) (p : Plan) (further : List Refusal) (v : B) → number r ≡ plan_refused p
    → refused (number r) ≡ outcome (with_plan p further) v
refused_first r p further v e = refused_by r v (plan_stops r p further e)
