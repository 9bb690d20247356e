-- What is refused of a head, as the code judges it.
--
--   bad, by-plan, by-needless, accepted   the number by refusal 1, by the plan, by field 6, and where nothing is refused
--   plan-is                               the plan, where it is accepted
use mathlib.Core.Path.{◌≡◌, refl, sym, ap, ◌∙◌}
use mathlib.Core.Bool.{true, false, cond}
use mathlib.Core.List.{List}
use Prim.Native.Nat.{ℕ}
use Rattle.plan.specs.declared.types.Plan.{Plan}
use Rattle.plan.specs.declared.refusals.Refusal.{Refusal}
use Rattle.plan.specs.Refusals.{number}
use Rattle.plan.specs.Check.{plan_refused}
use Rattle.plan.proofs.Laws.Answers.{plan_stops, after-plan}
use Rattle.fields.specs.Fields.{fields_of}
use Rattle.fields.specs.Tags.{bad_with}
use Rattle.contents.specs.Contents.{needless}
use Rattle.contents.specs.Held.{held}
use Rattle.contents.specs.Laws.Holding.{held-refused, held_all}
use Rattle.heads.specs.Heads.{bad_head, head_plan, head_refusals, head_refused}

module _ (head : List ℕ) where
  pub bad : bad_with 0 (fields_of head) ≡ true → 1 ≡ head_refused head
  unfolding head_refused bad_head bad_with
  bad e = rw e refl

  module _ {p : Plan} (is : p ≡ held (head_plan head)) where
    own : plan_refused p ≡ plan_refused (head_plan head)
    own = ap plan_refused is ∙ held-refused (head_plan head)

    pub plan-is : plan_refused p ≡ 0 → p ≡ head_plan head
    plan-is z = is ∙ held_all (head_plan head) (sym own ∙ z)

    module _ (fine : bad_with 0 (fields_of head) ≡ false) where
      pub by-plan : (r : Refusal) → number r ≡ plan_refused p → number r ≡ head_refused head
      unfolding head_refused bad_head bad_with
      by-plan r e = rw fine (plan_stops r (head_plan head) (head_refusals (fields_of head)) (e ∙ own))

      -- beyond the plan field 6 alone is left
      left : plan_refused p ≡ 0 → head_refused head ≡ cond (needless (fields_of head)) 16 0
      unfolding head_refused bad_head bad_with
      left z = rw fine (after-plan (head_plan head) (head_refusals (fields_of head)) (sym own ∙ z))

      pub by-needless : plan_refused p ≡ 0 → needless (fields_of head) ≡ true → 16 ≡ head_refused head
      by-needless z d = sym (left z ∙ rw d refl)

      pub accepted : plan_refused p ≡ 0 → needless (fields_of head) ≡ false → 0 ≡ head_refused head
      accepted z d = sym (left z ∙ rw d refl)
