use Rattle.anova.proofs.Rounded.{Left}
use Rattle.anova.proofs.rounds.all_rounds.Given as goal

abbrev pub invariant-loop-i : goal.invariant-loop-i
invariant-loop-i l = Left l.k l.initial.column l.i l.sets l.column
