-- The number of a sheet, by the plan and by what the code finds of a lent column or slice.
--
--   held_with      a plan that is held gives its sheet the same number
--   narrow-by      whether a column is too narrow counts for an accepted plan alone
use Rattle.std.specs.Prelude.{◌≡◌, Bool, cond}
use Rattle.std.proofs.Common.{sym, ap, ◌∙◌}
use Rattle.std.proofs.Math.Decide.{ℕ_discrete}
use Rattle.plan.specs.declared.types.Plan.{Plan}
use Rattle.plan.specs.Check.{plan_refused}
use Rattle.fields.specs.Fields.{Fields}
use Rattle.fields.specs.Tags.{bad_fields}
use Rattle.contents.specs.Held.{held}
use Rattle.contents.specs.Laws.Holding.{held-refused, held_all}
use Rattle.sheet.specs.Sheet.{refused_with}
use Rattle.sheet.specs.Laws.Admitted.{own-refused}

module _ (fs : Fields) (p : Plan) where
  pub held_with : (narrow : Bool) → refused_with fs (held p) narrow ≡ refused_with fs p narrow
  held_with narrow = by (ℕ_discrete (plan_refused p) 0)
    where
      by : Dec (plan_refused p ≡ 0) → refused_with fs (held p) narrow ≡ refused_with fs p narrow
      by (yes z) = ap (λ q. refused_with fs q narrow) (held_all p z)
      by (no z) = own-refused fs (held p) narrow (λ d. z (sym (held-refused p) ∙ d)) ∙ ap (cond (bad_fields fs) 1) (held-refused p) ∙ sym (own-refused fs p narrow z)

  pub narrow-by : (a b : Bool) → (plan_refused p ≡ 0 → a ≡ b) → refused_with fs p a ≡ refused_with fs p b
  narrow-by a b same = by (ℕ_discrete (plan_refused p) 0)
    where
      by : Dec (plan_refused p ≡ 0) → refused_with fs p a ≡ refused_with fs p b
      by (yes z) = ap (refused_with fs p) (same z)
      by (no z) = own-refused fs p a z ∙ sym (own-refused fs p b z)
