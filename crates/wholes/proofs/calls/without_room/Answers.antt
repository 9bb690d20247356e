use Rattle.std.proofs.Common.{sym}
use Rattle.plan.proofs.Laws.Answers.{number_some}
use Rattle.figures.specs.Laws.Roomed.{room-by-plan, room-eleven}
use Rattle.wholes.proofs.calls.without_room.Goals as goal

pub returns-in-Ok : goal.returns-in-Ok
returns-in-Ok c = room-eleven _ (sym c.in-Ok.ensures.number)

pub returns-in-Err : goal.returns-in-Err
returns-in-Err c = room-by-plan _ c.in-Err.ensures.number (number_some _)
