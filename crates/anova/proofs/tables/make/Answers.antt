use mathlib.Core.Path.{sym, ◌∙◌}
use Rattle.anova.proofs.Moved.{unmoved, unmoved-rows}
use Rattle.anova.proofs.tables.make.Goals as goal

pub returns-then-word-eq0 : goal.returns-then-word-eq0
returns-then-word-eq0 c =
    let none = sym c.three_word-word.ensures ∙ c.if-word-eq0.true in
    let made-is = c.by_effects.ensures in record { value = made-is.value ∙ unmoved _ none _ _; column_after = made-is.column_after; rows_after = made-is.rows_after ∙ unmoved-rows _ none _ }

pub in_blocks-requires : goal.in_blocks-requires
in_blocks-requires c = record { ready = c.requires; word-is = c.three_word-word.ensures; some = c.if-word-eq0.false }
