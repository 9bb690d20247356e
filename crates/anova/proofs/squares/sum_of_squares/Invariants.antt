use mathlib.Core.Path.{◌≡◌}
use lib.ListN.{take}
use Rattle.std.specs.List.{sum_by}
use Rattle.anova.specs.Inner.Readings.{squared}
use Rattle.anova.proofs.squares.sum_of_squares.Given as goal

abbrev pub invariant-loop-x : goal.invariant-loop-x
invariant-loop-x g l = l.sum ≡ sum_by (λ x. squared (g.T.Whole.whole x)) (take l.x-index l.column)
