use native.Mathlib.Omega.{arith}
use mathlib.Core.Path.{sym}
use lib.Seq.{length-take-le}
use Rattle.printing.specs.Printed.{text_of}
use Rattle.printing.specs.Laws.Inputs.{first-bytes, full-buffer, promised}
use Rattle.printing.proofs.calls.print_input.Goals as goal

pub returns-then-bytes-count : goal.returns-then-bytes-count
returns-then-bytes-count c =
    let a = c.args in
    let long = c.bytes-1.given in
    let text = full-buffer text_of a.input.now a.count a.text.now c.if-bytes-count.true (c.print_sheet.ensures.value, c.print_sheet.ensures.text_after) in let all = promised text_of a.input.now a.count first-bytes long (omega arith) text in record { value = all.0; text_after = all.1.0; decides = all.1.1.0; input_len = all.1.1.1 }

pub slice_bounds-print_sheet-end : goal.slice_bounds-print_sheet-end
slice_bounds-print_sheet-end c = sym (length-take-le _ _ (omega arith))

pub returns : goal.returns
returns c =
    let a = c.args in
    let long = c.bytes-1.given in let all = promised text_of a.input.now a.count first-bytes long (omega arith) (c.print_sheet-2.ensures.value, c.print_sheet-2.ensures.text_after) in record { value = all.0; text_after = all.1.0; decides = all.1.1.0; input_len = all.1.1.1 }
