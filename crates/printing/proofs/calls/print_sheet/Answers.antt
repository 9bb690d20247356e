use native.Mathlib.Omega.{arith}
use Rattle.printing.specs.Laws.Lengths.{text-written}
use Rattle.printing.proofs.calls.print_sheet.Goals as goal

pub returns : goal.returns
returns c =
    let start = c.new-whole.ensures in
    let all = text-written _ start.empty start.bytes (omega arith) c.sheet_text.ensures c.len.ensures in
    record { value = all.0; text_after = all.1 }
