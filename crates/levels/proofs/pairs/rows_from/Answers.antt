use Prim.Native.Nat.{◌+◌}
use Rattle.contrasts.specs.Columns.{read}
use Rattle.contrasts.proofs.Laws.Small.{reading-mild}
use Rattle.levels.proofs.pairs.rows_from.Goals as goal

pub rows_of-requires : goal.rows_of-requires
rows_of-requires c =
    let args = c.args in
    let within = c.requires.within in (
      reading-mild (read args.readings.now args.i) c.rows_of-arg-1.given (within args.i),
      reading-mild (read args.readings.now (args.i + 1)) c.rows_of-arg-2-1.given (within (args.i + 1)),
    )
