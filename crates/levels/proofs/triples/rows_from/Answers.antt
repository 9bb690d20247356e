use mathlib.Core.Path.{refl, ◌∙◌}
use Prim.Native.Nat.{◌+◌}
use Rattle.algebra.proofs.Laws.Machine.{widened, widened-fits}
use Rattle.contrasts.specs.Columns.{read}
use Rattle.contrasts.proofs.Laws.Small.{reading-mild}
use Rattle.levels.proofs.triples.rows_from.Goals as goal

pub overflow_cast-readings : goal.overflow_cast-readings
overflow_cast-readings c =
    let args = c.args in
    widened-fits (read args.readings.now args.i) c.rows_of-arg-1.given

pub overflow_cast-readings-2 : goal.overflow_cast-readings-2
overflow_cast-readings-2 c =
    let args = c.args in
    widened-fits (read args.readings.now (args.i + 1)) c.rows_of-arg-2-1.given

pub overflow_cast-readings-3 : goal.overflow_cast-readings-3
overflow_cast-readings-3 c =
    let args = c.args in
    widened-fits (read args.readings.now (args.i + 2)) c.rows_of-arg-3-1.given

pub rows_of-requires : goal.rows_of-requires
rows_of-requires c =
    let args = c.args in
    let within = c.requires.within in (
      reading-mild (read args.readings.now args.i) c.rows_of-arg-1.given (within args.i),
      reading-mild (read args.readings.now (args.i + 1)) c.rows_of-arg-2-1.given (within (args.i + 1)),
      reading-mild (read args.readings.now (args.i + 2)) c.rows_of-arg-3-1.given (within (args.i + 2)),
    )

pub returns : goal.returns
returns c =
    let args = c.args in
    c.rows_of.ensures
    ∙ rw (
      widened (read args.readings.now args.i) c.rows_of-arg-1.given,
      widened (read args.readings.now (args.i + 1)) c.rows_of-arg-2-1.given,
      widened (read args.readings.now (args.i + 2)) c.rows_of-arg-3-1.given,
    ) refl
