use mathlib.Core.Path.{sym}
use native.Mathlib.Omega.{arith}
use lib.Seq.{length-take-le}
use Rattle.algebra.specs.Laws.Searching.{unfound, onward, found, nowhere}
use Rattle.words.specs.Words.{repeated}
use Rattle.algebra.specs.Laws.Tests.{is}
use Rattle.words.proofs.lists.is_repeated.Goals as goal

pub loop-i-init : goal.loop-i-init
unfolding repeated
loop-i-init c = unfound _ _

pub slice_bounds-is_among-end : goal.slice_bounds-is_among-end
unfolding repeated
slice_bounds-is_among-end c = sym (length-take-le _ _ (omega arith))

pub returns-then-is_among : goal.returns-then-is_among
unfolding repeated
returns-then-is_among c =
    let inv = c.loop-i.invariant in
    let inside = c.loop-i-test.true in
    found inv inside (is c.is_among.ensures c.if-is_among.true)

pub loop-i-preserved : goal.loop-i-preserved
unfolding repeated
loop-i-preserved c =
    let inv = c.loop-i.invariant in
    let inside = c.loop-i-test.true in
    onward inv inside (is c.is_among.ensures c.if-is_among.false)

pub returns : goal.returns
unfolding repeated
returns c = nowhere c.loop-i.invariant c.loop-i-test.false
