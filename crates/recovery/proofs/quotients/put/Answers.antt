use Rattle.algebra.specs.Laws.Copied.{copying-none, copying-more, copying-all}
use Rattle.contrasts.specs.Columns.{read}
use Rattle.recovery.proofs.Divided.{narrowed-fits, narrowed}
use Rattle.recovery.proofs.quotients.put.Goals as goal

pub loop-i-init : goal.loop-i-init
loop-i-init c = copying-none _ _ _ c.requires.same

pub overflow_cast-readings : goal.overflow_cast-readings
overflow_cast-readings c =
    let i = c.loop-i.i in
    narrowed-fits (read c.args.column.now i) (c.requires.within i)

pub loop-i-preserved : goal.loop-i-preserved
loop-i-preserved c =
    let i = c.loop-i.i in
    copying-more c.loop-i.invariant c.loop-i-test.true (narrowed (read c.args.column.now i) (c.requires.within i))

pub returns : goal.returns
returns c = copying-all c.loop-i.invariant c.loop-i-test.false
