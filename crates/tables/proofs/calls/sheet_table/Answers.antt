use Rattle.std.proofs.Common.{rules}
use Rattle.std.specs.Prelude.{Err}
use mathlib.Core.Path.{◌≡◌, sym, ap, ◌∙◌}
use mathlib.Core.List.{List}
use Prim.Native.Nat.{ℕ, ◌/◌, ◌≤◌}
use lib.IntN.{ℤ}
use lib.ListN.{length}
use lib.Seq.{length-take-le}
use Rattle.plan.proofs.Laws.Answers.{number_some}
use Rattle.contents.specs.Contents.{readings_of}
use Rattle.contents.specs.Laws.Readings.{readings-put}
use Rattle.tables.specs.Sheets.{sheet_table_refused}
use Rattle.figures.specs.Laws.Roomed.{stopped}
use Rattle.tables.proofs.Sheets.{sheet-number, room_for, sheet-made, filled-long, filled-readings}
use Rattle.tables.proofs.calls.sheet_table.Goals as goal

pub returns-in_err-check_sheet : goal.returns-in_err-check_sheet
returns-in_err-check_sheet c =
    let first : c.from_residual.result ≡ Err c.in_err-check_sheet.field-0.0 = search rules in
    let number_is = sheet-number c.args.sheet.now (length c.args.totals.now) (length c.args.rows.now) c.plan_in-p.ensures c.other_slices-other.ensures c.in_err-check_sheet.ensures in
    rw first (stopped number_is (number_some _))

pub slice_bounds-column-end : goal.slice_bounds-column-end
slice_bounds-column-end c =
    let totals : List ℤ = c.args.totals.now in
    let rows : List ℕ = c.args.rows.now in
    let sheet : List ℕ = c.args.sheet.now in
    let accepted : sheet_table_refused sheet (length totals) (length rows) ≡ 0 = sym (sheet-number sheet _ _ c.plan_in-p.ensures c.other_slices-other.ensures c.in_ok-check_sheet.ensures) in
    let room : length c.body-readings.result.now / 4 ≤ 1024 = room_for _ totals rows accepted c.body-readings.ensures in
    room

pub slice_bounds-put_readings-end : goal.slice_bounds-put_readings-end
slice_bounds-put_readings-end c =
    let totals : List ℤ = c.args.totals.now in
    let rows : List ℕ = c.args.rows.now in
    let sheet : List ℕ = c.args.sheet.now in
    let accepted : sheet_table_refused sheet (length totals) (length rows) ≡ 0 = sym (sheet-number sheet _ _ c.plan_in-p.ensures c.other_slices-other.ensures c.in_ok-check_sheet.ensures) in
    let room : length c.body-readings.result.now / 4 ≤ 1024 = room_for _ totals rows accepted c.body-readings.ensures in
    sym (length-take-le _ _ room)

pub slice_bounds-column-end-2 : goal.slice_bounds-column-end-2
slice_bounds-column-end-2 c =
    let totals : List ℤ = c.args.totals.now in
    let rows : List ℕ = c.args.rows.now in
    let sheet : List ℕ = c.args.sheet.now in
    let accepted : sheet_table_refused sheet (length totals) (length rows) ≡ 0 = sym (sheet-number sheet _ _ c.plan_in-p.ensures c.other_slices-other.ensures c.in_ok-check_sheet.ensures) in
    let room : length c.body-readings.result.now / 4 ≤ 1024 = room_for _ totals rows accepted c.body-readings.ensures in
    let put : c.put_readings.new.column ≡ readings_of c.body-readings.result.now = c.put_readings.ensures ∙ readings-put _ _ (length-take-le _ _ room) in
    filled-long c.body-readings.result.now _ put

pub slice_bounds-tabulate-end : goal.slice_bounds-tabulate-end
slice_bounds-tabulate-end c =
    let totals : List ℤ = c.args.totals.now in
    let rows : List ℕ = c.args.rows.now in
    let sheet : List ℕ = c.args.sheet.now in
    let accepted : sheet_table_refused sheet (length totals) (length rows) ≡ 0 = sym (sheet-number sheet _ _ c.plan_in-p.ensures c.other_slices-other.ensures c.in_ok-check_sheet.ensures) in
    let room : length c.body-readings.result.now / 4 ≤ 1024 = room_for _ totals rows accepted c.body-readings.ensures in
    let put : c.put_readings.new.column ≡ readings_of c.body-readings.result.now = c.put_readings.ensures ∙ readings-put _ _ (length-take-le _ _ room) in
    sym (length-take-le _ _ (filled-long c.body-readings.result.now _ put))

pub returns : goal.returns
returns c =
    let totals : List ℤ = c.args.totals.now in
    let rows : List ℕ = c.args.rows.now in
    let sheet : List ℕ = c.args.sheet.now in
    let accepted : sheet_table_refused sheet (length totals) (length rows) ≡ 0 = sym (sheet-number sheet _ _ c.plan_in-p.ensures c.other_slices-other.ensures c.in_ok-check_sheet.ensures) in
    let room : length c.body-readings.result.now / 4 ≤ 1024 = room_for _ totals rows accepted c.body-readings.ensures in
    let put : c.put_readings.new.column ≡ readings_of c.body-readings.result.now = c.put_readings.ensures ∙ readings-put _ _ (length-take-le _ _ room) in
    let values = filled-readings c.body-readings.result.now _ put ∙ ap readings_of c.body-readings.ensures in
    sheet-made _ _ _ accepted c.plan_in-p.ensures values c.body-marks.ensures c.tabulate.ensures
