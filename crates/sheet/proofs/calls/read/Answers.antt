use Rattle.std.proofs.Common.{◌≡◌, rules, sym, ◌∙◌}
use Rattle.std.specs.Prelude.{Err}
use lib.Seq.{length-take-le}
use Rattle.contents.specs.Laws.Readings.{readings-put}
use Rattle.sheet.proofs.Answering.{read-refused, read-stopped, room_for, same_size, read-completed}
use Rattle.sheet.proofs.calls.read.Goals as goal

pub returns-in_err-check_sheet-clause-answer_value : goal.returns-in_err-check_sheet-clause-answer_value
returns-in_err-check_sheet-clause-answer_value c =
    let first : c.from_residual.result ≡ Err c.in_err-check_sheet.field-0.0 = search rules in
    let number = read-refused _ c.plan_in-p.ensures _ c.reading_count.ensures c.in_err-check_sheet.ensures in
    rw first (read-stopped _ _ _ number).0

pub returns-in_err-check_sheet-clause-plan_value : goal.returns-in_err-check_sheet-clause-plan_value
returns-in_err-check_sheet-clause-plan_value c =
    let first : c.from_residual.result ≡ Err c.in_err-check_sheet.field-0.0 = search rules in
    let number = read-refused _ c.plan_in-p.ensures _ c.reading_count.ensures c.in_err-check_sheet.ensures in
    rw first (read-stopped _ _ _ number).1.0

pub returns-in_err-check_sheet-clause-column_after : goal.returns-in_err-check_sheet-clause-column_after
returns-in_err-check_sheet-clause-column_after c =
    let number = read-refused _ c.plan_in-p.ensures _ c.reading_count.ensures c.in_err-check_sheet.ensures in
    (read-stopped _ _ _ number).1.1

pub slice_bounds-put_readings-end : goal.slice_bounds-put_readings-end
slice_bounds-put_readings-end c =
    let accepted = sym (read-refused _ c.plan_in-p.ensures _ c.reading_count.ensures c.in_ok-check_sheet.ensures) in
    room_for _ _ accepted c.body-readings.ensures

pub slice_bounds-put_readings-end-2 : goal.slice_bounds-put_readings-end-2
slice_bounds-put_readings-end-2 c =
    let accepted = sym (read-refused _ c.plan_in-p.ensures _ c.reading_count.ensures c.in_ok-check_sheet.ensures) in
    sym (length-take-le _ _ (room_for _ _ accepted c.body-readings.ensures))

pub shape_of-column : goal.shape_of-column
shape_of-column c =
    let accepted = sym (read-refused _ c.plan_in-p.ensures _ c.reading_count.ensures c.in_ok-check_sheet.ensures) in
    let room = room_for _ c.args.column.now accepted c.body-readings.ensures in
    let put = c.put_readings.ensures ∙ readings-put _ _ (length-take-le _ _ room) in
    same_size _ c.args.column.now accepted c.body-readings.ensures put

pub returns-clause-answer_value : goal.returns-clause-answer_value
returns-clause-answer_value c =
    let accepted = sym (read-refused _ c.plan_in-p.ensures _ c.reading_count.ensures c.in_ok-check_sheet.ensures) in
    let room = room_for _ c.args.column.now accepted c.body-readings.ensures in
    let put = c.put_readings.ensures ∙ readings-put _ _ (length-take-le _ _ room) in
    (read-completed _ c.args.column.now accepted c.body-readings.ensures put c.plan_in-p.ensures).0

pub returns-clause-plan_value : goal.returns-clause-plan_value
returns-clause-plan_value c =
    let accepted = sym (read-refused _ c.plan_in-p.ensures _ c.reading_count.ensures c.in_ok-check_sheet.ensures) in
    let room = room_for _ c.args.column.now accepted c.body-readings.ensures in
    let put = c.put_readings.ensures ∙ readings-put _ _ (length-take-le _ _ room) in
    (read-completed _ c.args.column.now accepted c.body-readings.ensures put c.plan_in-p.ensures).1.0

pub returns-clause-column_after : goal.returns-clause-column_after
returns-clause-column_after c =
    let accepted = sym (read-refused _ c.plan_in-p.ensures _ c.reading_count.ensures c.in_ok-check_sheet.ensures) in
    let room = room_for _ c.args.column.now accepted c.body-readings.ensures in
    let put = c.put_readings.ensures ∙ readings-put _ _ (length-take-le _ _ room) in
    (read-completed _ c.args.column.now accepted c.body-readings.ensures put c.plan_in-p.ensures).1.1
