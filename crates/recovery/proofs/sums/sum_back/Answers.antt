use Rattle.contrasts.proofs.Laws.Levels.{some-levels}
use Rattle.recovery.proofs.Summed.{all_none, all-ready, all_more, all_done, next_fits}
use Rattle.recovery.proofs.sums.sum_back.Goals as goal

pub loop-i-init : goal.loop-i-init
loop-i-init c = all_none c.requires

pub nonzero_div-spacing : goal.nonzero_div-spacing
nonzero_div-spacing c = some-levels _ c.requires.kind

pub sums_over-requires : goal.sums_over-requires
sums_over-requires c = all-ready c.requires c.loop-i.invariant c.loop-i-test.true

pub overflow_mul-denominator : goal.overflow_mul-denominator
overflow_mul-denominator c =
    let own = c.common-own.ensures in
    let inv = c.loop-i.invariant in
    record { fits = rw own (next_fits c.requires inv c.loop-i-test.true) }

pub loop-i-preserved : goal.loop-i-preserved
loop-i-preserved c =
    let own = c.common-own.ensures in
    let inv = c.loop-i.invariant in
    let inside = c.loop-i-test.true in
    rw own (all_more c.requires inv inside c.sums_over.ensures)

pub returns : goal.returns
returns c = let all = all_done c.requires c.loop-i.invariant c.loop-i-test.false in record { value = all.0; column_after = all.1 }
