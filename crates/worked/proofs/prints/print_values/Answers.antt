use Rattle.worked.specs.Prints.{spaced}
use Rattle.worked.proofs.Grown.{printed-more, appends-both, appends-none}
use Rattle.worked.proofs.prints.print_values.Goals as goal

pub loop-value-init : goal.loop-value-init
unfolding spaced
loop-value-init g c show shows = appends-none _

pub loop-value-preserved : goal.loop-value-preserved
loop-value-preserved g c show shows =
    let more = printed-more show c.args.values.now c.loop-value.value-index c.value-item.result c.loop-value-test.true in
    let written = c.in_ok-write.ensures.bytes in
    rw more (appends-both _ _ _ _ _ (c.loop-value.invariant show shows) (rw (← c.value-item.is) (rw (shows c.value-item.result) at written)))
