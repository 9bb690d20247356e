use Rattle.std.proofs.Common.{ap, ◌∙◌, take_all}
use Rattle.blockings.specs.Blockings.{blocked_plan}
use Rattle.blockwords.specs.Laws.Plans.{few_words, lost-is}
use Rattle.blockwords.proofs.list_lines.is_confounded.Goals as goal

pub returns : goal.returns
returns c =
    let whole = ap (blocked_plan c.args.k) (take_all 4 c.args.list.now (few_words c.requires)) in
    lost-is _ c.requires (c.blocked_plan.ensures ∙ whole) c.confounded.ensures
