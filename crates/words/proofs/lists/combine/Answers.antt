use Rattle.words.specs.Laws.Combined.{combining-start, combining-more, combining-end}
use Rattle.words.proofs.lists.combine.Goals as goal

pub loop-j-init : goal.loop-j-init
loop-j-init c = combining-start _ _ _ c.ranges.first.fits

pub loop-j-preserved : goal.loop-j-preserved
loop-j-preserved c =
    let inv = c.loop-j.invariant in
    let inside = c.loop-j-test.true in
    combining-more inv inside _ c.has_letter.ensures (c.type_inv.words _).fits c.combine_if-word.ensures

pub returns : goal.returns
returns c = combining-end c.loop-j.invariant c.loop-j-test.false
