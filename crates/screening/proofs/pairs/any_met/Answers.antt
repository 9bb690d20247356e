use Rattle.std.proofs.Common.{◌∙◌, arith}
use Rattle.algebra.specs.Laws.Searching.{unfound, onward, found, nowhere}
use Rattle.algebra.specs.Laws.Tests.{is}
use Rattle.screening.specs.Inner.Formed.{some_pair}
use Rattle.screening.proofs.Laws.Words.{pairs_listed}
use Rattle.screening.proofs.pairs.any_met.Goals as goal

pub loop-j-init : goal.loop-j-init
loop-j-init c = unfound _ _

pub returns-then-is_met : goal.returns-then-is_met
unfolding some_pair
returns-then-is_met c =
    let meets = c.is_met.ensures ∙ pairs_listed _ c.args.words.now c.args.mains.now (omega arith) in
    found c.loop-j.invariant c.loop-j-test.true (is meets c.if-is_met.true)

pub loop-j-preserved : goal.loop-j-preserved
loop-j-preserved c =
    let meets = c.is_met.ensures ∙ pairs_listed _ c.args.words.now c.args.mains.now (omega arith) in
    onward c.loop-j.invariant c.loop-j-test.true (is meets c.if-is_met.false)

pub returns : goal.returns
unfolding some_pair
returns c = nowhere c.loop-j.invariant c.loop-j-test.false
