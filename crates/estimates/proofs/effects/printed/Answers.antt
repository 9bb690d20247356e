use Rattle.estimates.proofs.Negation.{negated_fits, negated-is, negated-small, kept-is, kept_small}
use Rattle.estimates.proofs.effects.printed.Goals as goal

pub overflow_sub-result : goal.overflow_sub-result
overflow_sub-result c = negated_fits c.ranges.total c.requires

pub returns-then-is_odd_word : goal.returns-then-is_odd_word
returns-then-is_odd_word c =
    let f = c.ranges.total in
    (negated-is f c.requires _ c.is_odd_word.ensures c.if-is_odd_word.true, negated-small f c.requires)

pub returns : goal.returns
returns c =
    let f = c.ranges.total in
    (kept-is f c.requires _ c.is_odd_word.ensures c.if-is_odd_word.false, kept_small f c.requires)
