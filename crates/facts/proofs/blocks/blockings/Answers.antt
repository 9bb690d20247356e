use Rattle.std.proofs.Common.{sym, ◌∙◌}
use Rattle.plan.proofs.Laws.Answers.{given_is, refused-is, left_alone, written_new}
use Rattle.facts.specs.Facts.{blockings_count}
use Rattle.facts.proofs.blocks.blockings.Goals as goal

pub returns-in_err-n-clause-lists_after : goal.returns-in_err-n-clause-lists_after
unfolding blockings_count
returns-in_err-n-clause-lists_after c = left_alone _ _ _ (refused-is _ _ c.in_err-n.ensures.result_value).0

pub returns-clause-lists_after : goal.returns-clause-lists_after
unfolding blockings_count
returns-clause-lists_after c =
    let own = given_is _ _ c.in_ok-n.ensures.result_value in
    own.1 ∙ written_new _ _ _ own.0
