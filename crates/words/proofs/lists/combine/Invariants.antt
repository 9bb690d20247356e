use lib.ListN.{length}
use Rattle.words.specs.Laws.Combined.{Combining}
use Rattle.words.proofs.lists.combine.Given as goal

abbrev pub invariant-loop-j : goal.invariant-loop-j
invariant-loop-j l = Combining l.first l.chosen l.words l.j l.word
