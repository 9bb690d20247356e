-- The calls for single figures, by the head's number and by what the call on its plan answers: the number, and the places that they are lent.
--
--   run-stopped, run-refused, run-given                   the run call
--   alias-stopped, alias-refused, alias-given             the alias call
--   estimate-stopped, estimate-refused, estimate-given    the estimate
use Rattle.std.specs.Prelude.{◌≡◌, Bool, true, false, cond, List, ℕ, ℤ, Float}
use Rattle.std.proofs.Common.{refl, ap, ◌∙◌}
use mir.Facts.{to_z-of_z}
use mir.Syntax.{w64}
use mir.Val.{SFits, bool_byte}
use Rattle.algebra.specs.Laws.Machine.{wrap}
use Rattle.plan.specs.declared.types.Plan.{Plan}
use Rattle.plan.specs.declared.refusals.Refusal as refusals
use Rattle.plan.specs.Outcome.{given, refused, outcome}
use Rattle.plan.specs.Refusals.{number}
use Rattle.heads.specs.Heads.{head_plan, head_refused}
use Rattle.runs.specs.Run.{run_refused, run_values}
use Rattle.aliases.specs.Alias.{alias_refused, alias_values}
use Rattle.estimates.specs.Estimate.{Value, estimate_refused, estimate_value}
use Rattle.facts.specs.Facts.{run_on_head, run_high, run_block, alias_on_head, alias_word, alias_turned, outcome_code, double_of, estimate_on_head, estimate_kind, estimate_double}
use Rattle.facts.proofs.Lent.{by_head, by_values, by_refusal}

-- ---- the run call, of run n

module _ (head : List ℕ) (n high block : ℕ) where
  abbrev Run : ℕ → ℕ → ℕ → Type 0
  Run m a b = (m ≡ run_on_head head n) × ((a ≡ run_high head n high) × (b ≡ run_block head n block))

  pub run-stopped : (r : refusals.Refusal) → number r ≡ head_refused head → Run (number r) high block
  unfolding run_on_head run_high run_block
  run-stopped r e = by_head head (λ p. run_refused p n) (λ p. run_values p n) (λ v. v.0) (λ v. v.1) high block r e

  module _ (z : head_refused head ≡ 0) {p : Plan} (is : p ≡ head_plan head) where
    pub run-refused : (r : refusals.Refusal) → refused (number r) ≡ outcome (run_refused p n) (run_values p n) → Run (number r) high block
    unfolding run_on_head run_high run_block
    run-refused r e = by_refusal head (λ p. run_refused p n) (λ p. run_values p n) (λ v. v.0) (λ v. v.1) high block z is r e

    pub run-given : {a b : ℕ} → given (a, b) ≡ outcome (run_refused p n) (run_values p n) → Run 0 a b
    unfolding run_on_head run_high run_block
    run-given e = by_values head (λ p. run_refused p n) (λ p. run_values p n) (λ v. v.0) (λ v. v.1) high block z is e

-- ---- the alias call, of the effect x

-- 1 where the sign turns, and else 0
abbrev turn : ℕ × Bool → ℕ
turn v = cond v.1 1 0

-- as code makes it of a test
byte_of : (t : Bool) → bool_byte t ≡ cond t 1 0
byte_of true = refl
byte_of false = refl

module _ (head : List ℕ) (x word turned : ℕ) where
  abbrev Alias : ℕ → ℕ → ℕ → Type 0
  Alias m a b = (m ≡ alias_on_head head x) × ((a ≡ alias_word head x word) × (b ≡ alias_turned head x turned))

  pub alias-stopped : (r : refusals.Refusal) → number r ≡ head_refused head → Alias (number r) word turned
  unfolding alias_on_head alias_word alias_turned
  alias-stopped r e = by_head head (λ p. alias_refused p x) (λ p. alias_values p x) (λ v. v.0) turn word turned r e

  module _ (z : head_refused head ≡ 0) {p : Plan} (is : p ≡ head_plan head) where
    pub alias-refused : (r : refusals.Refusal) → refused (number r) ≡ outcome (alias_refused p x) (alias_values p x) → Alias (number r) word turned
    unfolding alias_on_head alias_word alias_turned
    alias-refused r e = by_refusal head (λ p. alias_refused p x) (λ p. alias_values p x) (λ v. v.0) turn word turned z is r e

    pub alias-given : {a : ℕ} {t : Bool} → given (a, t) ≡ outcome (alias_refused p x) (alias_values p x) → {b : ℕ} → b ≡ bool_byte t → Alias 0 a b
    unfolding alias_on_head alias_word alias_turned
    alias-given {t = t} e d =
        let own = by_values head (λ p. alias_refused p x) (λ p. alias_values p x) (λ v. v.0) turn word turned z is e in
        (own.0, (own.1.0, d ∙ byte_of t ∙ own.1.1))

-- ---- the estimate, of the effect x with the total t, which the call on the plan gets as bits

from_bits : (p : Plan) (x : ℕ) {t : ℤ} → SFits w64 t
    → outcome (estimate_refused p x (wrap t)) (estimate_value p x (wrap t)) ≡ outcome (estimate_refused p x t) (estimate_value p x t)
from_bits p x fits = ap (λ s. outcome (estimate_refused p x s) (estimate_value p x s)) (to_z-of_z fits)

module _ (head : List ℕ) (x : ℕ) (t : ℤ) (kind : ℕ) (value : Float) where
  abbrev Estimate : ℕ → ℕ → Float → Type 0
  Estimate m a b = (m ≡ estimate_on_head head x t) × ((a ≡ estimate_kind head x t kind) × (b ≡ estimate_double head x t value))

  pub estimate-stopped : (r : refusals.Refusal) → number r ≡ head_refused head → Estimate (number r) kind value
  unfolding estimate_on_head estimate_kind estimate_double
  estimate-stopped r e = by_head head (λ p. estimate_refused p x t) (λ p. estimate_value p x t) outcome_code (λ v. double_of v value) kind value r e

  module _ (z : head_refused head ≡ 0) {p : Plan} (is : p ≡ head_plan head) (fits : SFits w64 t) where
    pub estimate-refused : (r : refusals.Refusal) → refused (number r) ≡ outcome (estimate_refused p x (wrap t)) (estimate_value p x (wrap t))
        → Estimate (number r) kind value
    unfolding estimate_on_head estimate_kind estimate_double
    estimate-refused r e =
        by_refusal head (λ p. estimate_refused p x t) (λ p. estimate_value p x t) outcome_code (λ v. double_of v value) kind value z is r
        (e ∙ from_bits p x fits)

    pub estimate-given : (v : Value) → given v ≡ outcome (estimate_refused p x (wrap t)) (estimate_value p x (wrap t))
        → Estimate 0 (outcome_code v) (double_of v value)
    unfolding estimate_on_head estimate_kind estimate_double
    estimate-given v e =
        by_values head (λ p. estimate_refused p x t) (λ p. estimate_value p x t) outcome_code (λ v. double_of v value) kind value z is
        (e ∙ from_bits p x fits)
