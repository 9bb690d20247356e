use mathlib.Core.Path.{refl, sym, ap, ◌∙◌}
use native.Mathlib.Nat.{le_refl}
use Rattle.sheet.specs.Sheet.{plan_of}
use Rattle.screentab.specs.Laws.Sheets.{column-ready, number-given, number_passed}
use Rattle.screentab.proofs.texts.check_screened.Goals as goal

pub lend-requires : goal.lend-requires
lend-requires c =
    let told = c.read.ensures in
    column-ready _ _ refl told.answer_value c.in-Ok.is (ap plan_of (sym c.in-Ok.is) ∙ told.plan_value) told.column_after c.marks.ensures

pub returns-in-Ok : goal.returns-in-Ok
returns-in-Ok c =
    let told = c.read.ensures in
    number-given _ _ refl told.answer_value c.in-Ok.is (ap plan_of (sym c.in-Ok.is) ∙ told.plan_value) told.column_after c.marks.ensures c.lend.ensures

pub returns-in-Err : goal.returns-in-Err
returns-in-Err c = number_passed _ 1024 (le_refl 1024) c.read.ensures.answer_value c.in-Err.is
