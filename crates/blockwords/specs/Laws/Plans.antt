-- The plan that has a list as its block words.
--
--   few_words    a list that is accepted has at most four words
--   lost-is      whether it confounds an effect
use Rattle.std.specs.Prelude.{◌≡◌, refl, Bool, List, ℕ, ◌≤◌, length}
use Rattle.std.proofs.Common.{◌∙◌}
use Rattle.plan.specs.declared.types.Plan.{Plan}
use Rattle.plan.specs.Check.{confounded_accepted}
use Rattle.plan.specs.Plan.{confounded_in}
use Rattle.plan.proofs.Laws.Accepted.{sizes}
use Rattle.blockings.specs.Blockings.{blocked_plan}
use Rattle.blockwords.specs.Inner.Ready.{Blocked}

pub few_words : {k : ℕ} {ws : List ℕ} → Blocked k ws → length ws ≤ 4
few_words {k} {ws} b = (sizes (blocked_plan k ws) b.accepted).2

pub lost-is : {k : ℕ} {ws : List ℕ} {p : Plan} (w : ℕ) {lost : Bool} → Blocked k ws → p ≡ blocked_plan k ws → lost ≡ confounded_accepted p w
    → lost ≡ confounded_in (blocked_plan k ws) w
unfolding confounded_accepted
lost-is w b e f = f ∙ rw (e, b.accepted) refl
