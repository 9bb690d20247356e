use mathlib.Core.Path.{refl, sym, ap, ◌∙◌}
use native.Mathlib.Omega.{arith}
use Rattle.plan.specs.Refusals.{number_of}
use Rattle.plan.proofs.Laws.Answers.{number_some}
use Rattle.screentab.specs.Laws.Sheets.{text-made, line-text}
use Rattle.screentab.proofs.texts.screened_text.Goals as goal

pub returns-in-Ok : goal.returns-in-Ok
returns-in-Ok c =
    let all = text-made _ (ap number_of (sym c.in-Ok.is) ∙ c.check_screened.ensures) refl _ (c.print_sheet.ensures.value, c.print_sheet.ensures.text_after) in
    record { value = all.0; text_after = all.1 }

pub returns-in-Err : goal.returns-in-Err
returns-in-Err c =
    let own = c.number.ensures ∙ ap number_of (sym c.in-Err.is) ∙ c.check_screened.ensures in
    let start = c.new-line.ensures in
    let all = line-text _ own (λ z. number_some _ (sym c.number.ensures ∙ z)) start.empty start.bytes (omega arith) c.named_line.ensures c.len.ensures in
    record { value = all.0; text_after = all.1 }
