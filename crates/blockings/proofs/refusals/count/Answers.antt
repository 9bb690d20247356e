use native.Mathlib.Omega.{arith}
use Rattle.algebra.specs.Laws.Tests.{is}
use Rattle.algebra.specs.Laws.Collected.{counted_none, counted-pass, counted_skip, counted-all}
use Rattle.blockings.proofs.Listing.{counted-lists}
use Rattle.blockings.proofs.refusals.count.Goals as goal
use Rattle.blockings.proofs.refusals.count.Goals.{then-is_listed, else-is_listed}

pub loop-i-init : goal.loop-i-init
loop-i-init c = counted_none _ _ _

pub loop-i-preserved : goal.loop-i-preserved
loop-i-preserved c =
    let tested = c.is_listed.ensures in
    let counted = c.loop-i.invariant in
    let more = c.loop-i-test.true in
    elim c.if-is_listed.branch [
      | then-is_listed w ↦ rw w.n-is (counted-pass counted more (is tested w.if-is_listed.true))
      | else-is_listed w ↦ rw w.n-is (counted_skip counted more (is tested w.if-is_listed.false))
    ]

pub returns : goal.returns
returns c =
    let lists = c.all_lists-all.ensures in
    (counted-lists _ _ lists.0 (counted-all c.loop-i.invariant c.loop-i-test.false), omega (arith, lists.1))
