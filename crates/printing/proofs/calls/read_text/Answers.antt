use mathlib.Core.Path.{refl, sym, ap, ◌∙◌}
use native.Mathlib.Nat.{le_refl}
use Rattle.sheet.specs.Sheet.{plan_of}
use Rattle.printing.specs.Laws.Sheets.{sheet-ready, sheet-made, sheet-stopped}
use Rattle.printing.proofs.calls.read_text.Goals as goal

pub lend-requires : goal.lend-requires
lend-requires c =
    let told = c.read.ensures in
    sheet-ready _ _ refl told.answer_value c.in-Ok.is (ap plan_of (sym c.in-Ok.is) ∙ told.plan_value) told.column_after c.marks.ensures

pub returns-in-Ok : goal.returns-in-Ok
returns-in-Ok c =
    let told = c.read.ensures in
    sheet-made _ _ refl told.answer_value c.in-Ok.is (ap plan_of (sym c.in-Ok.is) ∙ told.plan_value) told.column_after c.marks.ensures c.lend.ensures

pub returns-in-Err : goal.returns-in-Err
returns-in-Err c = sheet-stopped _ 1024 (le_refl 1024) c.read.ensures.answer_value c.in-Err.is c.number.ensures c.named_line.ensures
