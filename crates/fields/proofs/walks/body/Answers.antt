use lib.Dec.{eqb}
use Rattle.std.proofs.Common.{rules}
use borrow.Author.Tests.{tests}
use Rattle.std.proofs.lemmas.Iterator.Consumers.{YieldsList-at, YieldsList-from_filter, nth_from_yields_List}
use Rattle.fields.proofs.Walking.{walk, at-place}
use Rattle.fields.proofs.walks.body.Goals as goal

pub returns : goal.returns
returns c =
    let all = nth_from_yields_List c.nth.result c.nth.new.self c.args.place c.nth.ensures.ran
    (YieldsList-from_filter _ (λ f. eqb f.0 c.args.tag) (YieldsList-at c.filter.ensures.source (walk _)) c.filter.ensures.closure (λ x r q k. search (rules, tests))) in
    let h = c.map_or.ensures in
    at-place _ _ _ _ all (search (rules, h))
