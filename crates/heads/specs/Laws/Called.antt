-- A call on the plan of a head, as code makes it: it stops with the head's number, or it goes on with the plan that it holds.
--
--   head-accepted    the plan of a head that is not refused is accepted
--   stops, keeps     the number of a head that is refused is that of the call, and what is lent to write stays as it was
--   plan-is          else the plan that the code holds is that of the head
--   goes, makes      and number and slices are those of the call on this plan
--   called_off, left_off    the same where the head is refused by name
--   called_as, left_as      and where the plan that it holds was read
use Rattle.std.specs.Prelude.{◌≡◌, List, ℕ}
use Rattle.std.proofs.Common.{sym, ◌∙◌, arith, eq-eqb, ne_eqb}
use Rattle.std.proofs.Math.Path.{ap}
use Rattle.plan.specs.declared.types.Plan.{Plan}
use Rattle.plan.specs.Check.{plan_refused, with_plan}
use Rattle.plan.specs.declared.refusals.Refusal as refusals
use Rattle.plan.specs.Refusals.{number}
use Rattle.plan.proofs.Laws.Answers.{number_some, passed, plan-passed, unwritten, written_new}
use Rattle.fields.specs.Fields.{fields_of}
use Rattle.contents.specs.Held.{held}
use Rattle.contents.specs.Laws.Holding.{held_all}
use Rattle.heads.specs.Heads.{bad_head, head_plan, head_refusals, head_refused, called, leaves}

pub head-accepted : (head : List ℕ) → head_refused head ≡ 0 → plan_refused (head_plan head) ≡ 0
unfolding head_refused
head-accepted head z =
    let further = head_refusals (fields_of head) in
    (plan-passed (head_plan head) further (passed (bad_head (fields_of head)) 1 (with_plan (head_plan head) further) (omega arith) z).1).0

module _ (head : List ℕ) {n : ℕ} (e : n ≡ head_refused head) where
  module _ (h : n ≡ 0 → ⊥) where
    refused : head_refused head ≡ 0 → ⊥
    refused z = h (e ∙ z)

    pub stops : (number : Plan → ℕ) → n ≡ called head number
    unfolding called
    stops number = e ∙ rw (ne_eqb (head_refused head) 0 refused)

    pub keeps : {A : Type 0} (made : Plan → A) (old : A) → old ≡ leaves head made old
    unfolding leaves
    keeps made old = unwritten (head_refused head) (made (head_plan head)) old refused

  module _ (z : n ≡ 0) {p : Plan} (is : p ≡ held (head_plan head)) where
    pub plan-is : p ≡ head_plan head
    plan-is = is ∙ held_all (head_plan head) (head-accepted head (sym e ∙ z))

    pub goes : (number : Plan → ℕ) {m : ℕ} → m ≡ number p → m ≡ called head number
    unfolding called
    goes number d = d ∙ ap number plan-is ∙ rw (eq-eqb (head_refused head) 0 (sym e ∙ z))

    pub makes : {A : Type 0} (made : Plan → A) (old : A) {x : A} → x ≡ made p → x ≡ leaves head made old
    unfolding leaves
    makes made old d = d ∙ ap made plan-is ∙ written_new (head_refused head) (made (head_plan head)) old (sym e ∙ z)

module _ (head : List ℕ) (r : refusals.Refusal) (e : number r ≡ head_refused head) where
  pub called_off : (call : Plan → ℕ) → number r ≡ called head call
  called_off call = stops head e (number_some r) call

  pub left_off : {A : Type 0} (made : Plan → A) (old : A) → old ≡ leaves head made old
  left_off made old = keeps head e (number_some r) made old

module _ (head : List ℕ) (z : head_refused head ≡ 0) {p : Plan} (is : p ≡ head_plan head) where
  pub called_as : (call : Plan → ℕ) {m : ℕ} → m ≡ call p → m ≡ called head call
  unfolding called
  called_as call d = d ∙ ap call is ∙ rw (eq-eqb (head_refused head) 0 z)

  pub left_as : {A : Type 0} (made : Plan → A) (old : A) {x : A} → x ≡ made p → x ≡ leaves head made old
  unfolding leaves
  left_as made old d = d ∙ ap made is ∙ written_new (head_refused head) (made (head_plan head)) old z
