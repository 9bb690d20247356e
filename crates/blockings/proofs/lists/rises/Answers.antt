use Rattle.std.proofs.Common.{◌≡◌, ◌+◌, ◌-◌, arith, true, false, get_or, leb}
use borrow.Author.Tests.{le-leb, lt-leb}
use Rattle.algebra.specs.Laws.Searching.{unfound, onward}
use Rattle.blockings.proofs.Listing.{falls, rises}
use Rattle.blockings.proofs.lists.rises.Goals as goal

pub loop-j-init : goal.loop-j-init
loop-j-init c = unfound _ _

pub returns-then-words-j : goal.returns-then-words-j
returns-then-words-j c =
    let words = c.args.words.now in
    let j = c.loop-j.j in
    let place : ◌≡◌ (j - 1 + 1) j = omega arith in
    let fall : leb (get_or words (j - 1 + 1) 0) (get_or words (j - 1) 0) ≡ true = rw place (le-leb _ _ (omega arith)) in
    falls words c.loop-j.invariant (omega arith) fall

pub loop-j-preserved : goal.loop-j-preserved
loop-j-preserved c =
    let words = c.args.words.now in
    let j = c.loop-j.j in
    let place : ◌≡◌ (j - 1 + 1) j = omega arith in
    let rise : leb (get_or words (j - 1 + 1) 0) (get_or words (j - 1) 0) ≡ false = rw place (lt-leb _ _ (omega arith)) in
    let next : ◌≡◌ (j + 1 - 1) (j - 1 + 1) = omega arith in
    rw next (onward c.loop-j.invariant (omega arith) rise)

pub returns : goal.returns
returns c = rises _ c.loop-j.invariant (omega arith)
