-- The answers of the call, by the number that was found; a total is as code holds it, as bits and read again.
--
--   stopped     where something is refused, the refusal
--   ready       where nothing is, there are two or more readings, and doubles hold the total and their number
--   answered    and then the values, by whether the effect was found to be confounded
use mathlib.Core.Path.{◌≡◌, sym, ap, ◌∙◌}
use mathlib.Core.Bool.{Bool}
use Prim.Native.Nat.{ℕ, ◌<◌}
use lib.IntN.{ℤ}
use mir.Facts.{to_z-of_z}
use mir.Syntax.{w64}
use mir.Val.{SFits}
use Rattle.algebra.specs.Laws.Machine.{wrap}
use Rattle.plan.specs.declared.refusals.Refusal.{Refusal}
use Rattle.plan.specs.declared.types.Plan.{Plan}
use Rattle.plan.specs.Check.{confounded_accepted}
use Rattle.plan.specs.Outcome.{given, refused, outcome}
use Rattle.plan.specs.Refusals.{number}
use Rattle.plan.proofs.Laws.Answers.{refused_by, given-with}
use Rattle.plan.proofs.Laws.Sizes.{confounded-is}
use Rattle.estimates.specs.Quotient.{InDouble}
use Rattle.estimates.specs.Estimate.{Value, power_of, value_by, estimate_refused, estimate_value}
use Rattle.estimates.proofs.Laws.Given.{Admitted, admitted, some-power, held}

module _ (p : Plan) (e : ℕ) {t : ℤ} (f : SFits w64 t) where
  found : {n : ℕ} → n ≡ estimate_refused p e (wrap t) → n ≡ estimate_refused p e t
  found d = d ∙ ap (estimate_refused p e) (to_z-of_z f)

  pub stopped : (r : Refusal) → number r ≡ estimate_refused p e (wrap t) → refused (number r) ≡ outcome (estimate_refused p e t) (estimate_value p e t)
  stopped r d = refused_by r (estimate_value p e t) (found d)

  module _ (d : 0 ≡ estimate_refused p e (wrap t)) where
    none : estimate_refused p e t ≡ 0
    none = sym (found d)

    pub nothing_refused : Admitted p e t
    nothing_refused = admitted p e t none

    module _ {m : ℕ} (c : m ≡ power_of p) where
      pub ready : (0 < m) × InDouble (wrap t) m
      ready = rw (c, to_z-of_z f) (some-power nothing_refused, held nothing_refused)

      pub answered : {b : Bool} → b ≡ confounded_accepted p e → {x : Value} → x ≡ value_by b m e (wrap t)
          → given x ≡ outcome (estimate_refused p e t) (estimate_value p e t)
      answered l v =
          ap given v
          ∙ rw (c, to_z-of_z f, l, confounded-is p e nothing_refused.plan) (sym (given-with (estimate_refused p e t) (estimate_value p e t) none))
