-- A table of the plan of a head.
--
--   head-stopped    a head that is refused stops the call with its number
--   head-goes       else the call is that on the plan that was read
use mathlib.Core.Path.{◌≡◌, refl, sym}
use mathlib.Core.List.{List}
use Prim.Native.Nat.{ℕ}
use lib.IntN.{ℤ}
use Rattle.plan.specs.declared.refusals.Refusal.{Refusal}
use Rattle.plan.specs.declared.types.Plan.{Plan}
use Rattle.plan.specs.Refusals.{number}
use Rattle.plan.proofs.Laws.Answers.{number_some}
use Rattle.heads.specs.Heads.{head_plan, head_refused, called}
use Rattle.heads.specs.Laws.Called.{called_off, called_as}
use Rattle.figures.specs.Numbers.{TableLeft}
use Rattle.figures.specs.Laws.Roomed.{stopped, same-call}

-- by the call's number for a plan
module _ (head : List ℕ) (call : Plan → ℕ) {readings : List ℤ} {marks : List ℕ} {totals : List ℤ} {rows figures : List ℕ} {checks : List ℤ} where
  pub head-stopped : (r : Refusal) → number r ≡ head_refused head
      → TableLeft (called head call) (head_plan head) readings marks totals rows figures checks (number r) totals rows figures checks
  head-stopped r e = stopped (called_off head r e call) (number_some r)

  pub head-goes : 0 ≡ head_refused head → {p : Plan} → p ≡ head_plan head → {d : ℕ} {ts : List ℤ} {rs fs : List ℕ} {cs : List ℤ}
      → TableLeft (call p) p readings marks totals rows figures checks d ts rs fs cs
      → TableLeft (called head call) (head_plan head) readings marks totals rows figures checks d ts rs fs cs
  head-goes z is h = same-call (called_as head (sym z) is call refl) is refl refl h
