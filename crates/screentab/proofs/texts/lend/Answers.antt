use Rattle.std.proofs.Common.{◌≡◌, sym, Err, rules}
use Prim.Native.Nat.{◌≤◌}
use lib.ListN.{length, take}
use lib.Seq.{length-take-le}
use Rattle.printing.specs.Laws.Tables.{few-runs, few-rows, readings-long}
use Rattle.screentab.specs.Laws.Lent.{lent-made, lent-stopped}
use Rattle.screentab.proofs.texts.lend.Goals as goal

pub slice_bounds-screen-end : goal.slice_bounds-screen-end
slice_bounds-screen-end c =
    let all_there : let m = c.reading_count-m.result in length (take m c.args.column.now) ≡ m = let pre = c.requires in readings-long _ pre.plan c.reading_count-m.ensures _ pre.wide in
    sym all_there

pub slice_bounds-totals-end : goal.slice_bounds-totals-end
slice_bounds-totals-end c =
    let runs_fit : c.runs-n.result ≤ 1024 = few-runs _ c.requires.plan c.runs-n.ensures in
    runs_fit

pub slice_bounds-screen-end-2 : goal.slice_bounds-screen-end-2
slice_bounds-screen-end-2 c =
    let runs_fit : c.runs-n.result ≤ 1024 = few-runs _ c.requires.plan c.runs-n.ensures in
    sym (length-take-le _ _ runs_fit)

pub slice_bounds-rows-end : goal.slice_bounds-rows-end
slice_bounds-rows-end c =
    let rows_fit : c.row_count-r.result ≤ 1024 = few-rows _ c.requires.plan c.row_count-r.ensures in
    rows_fit

pub slice_bounds-screen-end-3 : goal.slice_bounds-screen-end-3
slice_bounds-screen-end-3 c =
    let rows_fit : c.row_count-r.result ≤ 1024 = few-rows _ c.requires.plan c.row_count-r.ensures in
    sym (length-take-le _ _ rows_fit)

pub returns : goal.returns
returns c =
    let runs_fit : c.runs-n.result ≤ 1024 = few-runs _ c.requires.plan c.runs-n.ensures in
    let rows_fit : c.row_count-r.result ≤ 1024 = few-rows _ c.requires.plan c.row_count-r.ensures in
    lent-made _ c.requires.plan c.runs-n.ensures c.reading_count-m.ensures c.row_count-r.ensures
    _ _ _ _ (length-take-le _ _ runs_fit) (length-take-le _ _ rows_fit) c.screen.ensures.result_value c.in_ok-screen.was

pub returns-in_err-screen : goal.returns-in_err-screen
returns-in_err-screen c =
    let runs_fit : c.runs-n.result ≤ 1024 = few-runs _ c.requires.plan c.runs-n.ensures in
    let rows_fit : c.row_count-r.result ≤ 1024 = few-rows _ c.requires.plan c.row_count-r.ensures in
    let first : c.from_residual.result ≡ Err c.in_err-screen.field-0.0 = search rules in
    rw first
    (lent-stopped _ c.requires.plan c.runs-n.ensures c.reading_count-m.ensures c.row_count-r.ensures
    _ _ _ _ (length-take-le _ _ runs_fit) (length-take-le _ _ rows_fit) c.screen.ensures.result_value c.in_err-screen.was)
