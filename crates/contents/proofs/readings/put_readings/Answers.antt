use mathlib.Core.Path.{sym, ◌∙◌}
use Rattle.contents.specs.Laws.Readings.{readings-put, readings-kept, fours_long}
use Rattle.contents.proofs.readings.put_readings.Goals as goal

pub returns-then-column-fours : goal.returns-then-column-fours
returns-then-column-fours c =
    let long = fours_long _ _ c.fours-fours.ensures in
    c.fill.ensures ∙ c.fours-fours.ensures ∙ sym (readings-put _ _ (c.if-column-fours.true ∙ long))

pub returns-else-column-fours : goal.returns-else-column-fours
returns-else-column-fours c =
    let long = fours_long _ _ c.fours-fours.ensures in
    readings-kept _ _ (λ e. c.if-column-fours.false (e ∙ sym long))
