-- A call on the plan of a head that is lent two places: its number and what it leaves in them, by what the call on the plan answers.
--
--   Leaves m a b    the call's number is m, and it leaves a and b in the places: f and g of the plan's values where the number is 0
--   by_head         so where the head is refused
--   by_values       where the call on the plan gives values
--   by_refusal      and where it is refused
use Rattle.std.specs.Prelude.{◌≡◌, List, ℕ}
use Rattle.std.proofs.Common.{sym, ap, ◌∙◌}
use Rattle.plan.specs.declared.types.Plan.{Plan}
use Rattle.plan.specs.declared.refusals.Refusal as refusals
use Rattle.plan.specs.Outcome.{given, refused, outcome, written}
use Rattle.plan.specs.Refusals.{number}
use Rattle.plan.proofs.Laws.Answers.{given_is, refused-is, left_alone, written_new}
use Rattle.heads.specs.Heads.{head_plan, head_refused, called}
use Rattle.heads.specs.Laws.Called.{called_off, called_as}

module _ (head : List ℕ) (call : Plan → ℕ) {W A B : Type 0} (values : Plan → W) (f : W → A) (g : W → B) (x : A) (y : B) where
  abbrev pub Leaves : ℕ → A → B → Type 0
  Leaves m a b =
      let n = called head call in
      let v = values (head_plan head) in
      (m ≡ n) × ((a ≡ written n (f v) x) × (b ≡ written n (g v) y))

  -- a refusal leaves both as they were
  kept : (r : refusals.Refusal) → number r ≡ called head call → Leaves (number r) x y
  kept r d = let v = values (head_plan head) in (d, (left_alone r (f v) x d, left_alone r (g v) y d))

  pub by_head : (r : refusals.Refusal) → number r ≡ head_refused head → Leaves (number r) x y
  by_head r e = kept r (called_off head r e call)

  module _ (z : head_refused head ≡ 0) {p : Plan} (is : p ≡ head_plan head) where
    pub by_values : {v : W} → given v ≡ outcome (call p) (values p) → Leaves 0 (f v) (g v)
    by_values answer =
        let own = given_is (call p) (values p) answer in
        let d : 0 ≡ called head call = called_as head z is call (sym own.0) in
        let new = own.1 ∙ ap values is in
        let v = values (head_plan head) in (
          d,
          (ap f new ∙ written_new (called head call) (f v) x (sym d), ap g new ∙ written_new (called head call) (g v) y (sym d)),
        )

    pub by_refusal : (r : refusals.Refusal) → refused (number r) ≡ outcome (call p) (values p) → Leaves (number r) x y
    by_refusal r answer = kept r (called_as head z is call (refused-is (call p) (values p) answer).0)
