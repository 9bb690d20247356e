use mathlib.Core.Path.{refl, ◌∙◌}
use Rattle.promises.proofs.text.Goals as goal

pub returns : goal.returns
returns c = record { value = c.print_sheet.ensures.value; text_after = c.print_sheet.ensures.text_after ∙ rw c.print_sheet.ensures.value refl }
