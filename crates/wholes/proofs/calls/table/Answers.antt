use Rattle.algebra.specs.Laws.Tests.{is}
use Rattle.figures.specs.Laws.Roomed.{room-is, without-room, with-room}
use Rattle.wholes.proofs.calls.table.Goals as goal

pub returns-then-wrong_room : goal.returns-then-wrong_room
returns-then-wrong_room c =
    let whole_is = c.whole-p.ensures in
    let wrong-room-is = c.wrong_room.ensures in
    rw (← whole_is) (without-room (is wrong-room-is c.if-wrong_room.true) c.without_room.ensures)

pub tabulate-requires : goal.tabulate-requires
tabulate-requires c =
    let wrong-room-is = c.wrong_room.ensures in
    let if1-left = c.if-wrong_room.false in
    room-is _ _ (is wrong-room-is if1-left)

pub returns : goal.returns
returns c =
    let whole_is = c.whole-p.ensures in
    let wrong-room-is = c.wrong_room.ensures in
    let room = is wrong-room-is c.if-wrong_room.false in
    rw (← whole_is) (with-room room c.tabulate.ensures)
