-- The limit of a total: no total of run sums that are within their own limit is refused.
--
--   totals-admitted    every effect of an accepted plan of two levels is admitted with its total
use Rattle.std.specs.Prelude.{◌≡◌, ℕ, ◌*◌, ◌^◌, ◌<◌, ◌≤◌, nat_abs, replicate}
use Rattle.std.proofs.Common.{ap, ◌∙◌}
use Rattle.algebra.specs.Naturals.{Σℕ, most}
use Rattle.contrasts.proofs.Factors.{two}
use Rattle.contrasts.specs.Totals.{Column, total}
use Rattle.contrasts.proofs.Laws.Replicated.{growth-alike}
use Rattle.contrasts.proofs.Laws.Bounds.{Within, growth, bound-total}
use Rattle.contrasts.specs.Laws.Bounds.{reach}
use Rattle.words.specs.Laws.Letters.{beyond-none}
use Rattle.plan.specs.declared.types.Plan.{Plan}
use Rattle.plan.specs.Check.{plan_refused}
use Rattle.plan.specs.Limits.{run_limit}
use Rattle.plan.specs.Plan.{factors_of, runs_of}
use Rattle.plan.proofs.Laws.Sizes.{factors-two, runs-two}
use Rattle.estimates.proofs.Laws.Given.{Admitted}

growth-two : (k : ℕ) → growth (replicate k two) ≡ 2 ^ k
unfolding reach most Σℕ two
growth-two k = growth-alike k two

pub totals-admitted : (p : Plan) → plan_refused p ≡ 0 → p.levels ≡ 2 → (x : Column) → Within (runs_of p) (run_limit p) x
    → (e : ℕ) → e < runs_of p → Admitted p e (total (factors_of p) x e)
totals-admitted p z l x w e h =
    let n : runs_of p ≡ 2 ^ p.k = runs-two p l in
    let g : growth (factors_of p) ≡ 2 ^ p.k = ap growth (factors-two p l) ∙ growth-two p.k in
    let b : nat_abs (total (factors_of p) x e) ≤ growth (factors_of p) * run_limit p = bound-total (factors_of p) x (run_limit p) w e h in
    record { plan = z; levels = l; letters = beyond-none p.k e (rw n at h); within = rw g at b }
