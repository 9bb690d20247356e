use mathlib.Core.Path.{◌∙◌}
use Rattle.std.proofs.Common.{rules}
use borrow.Author.Tests.{tests}
use Rattle.std.proofs.lemmas.Iterator.Consumers.{YieldsList-at, YieldsList-from_filter, count_from_yields_List}
use Rattle.fields.proofs.Walking.{walk, counted}
use Rattle.fields.proofs.walks.count.Goals as goal

pub returns : goal.returns
returns c =
    count_from_yields_List c.filter.result _ c.count.ensures.ran
    (YieldsList-from_filter _ _ (YieldsList-at c.filter.ensures.source (walk _)) c.filter.ensures.closure (λ x r q k. search (rules, tests)))
    ∙ counted _ _
