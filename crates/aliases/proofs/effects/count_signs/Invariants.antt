use Rattle.aliases.specs.Laws.Counted.{Counted}
use Rattle.aliases.proofs.effects.count_signs.Given as goal

abbrev pub invariant-loop-j : goal.invariant-loop-j
invariant-loop-j l = Counted l.replaced l.signs l.j l.n
