use lib.ListN.{length, get_or, take}
use Rattle.algebra.specs.Laws.Searching.{Unfound}
use Rattle.words.specs.Words.{among}
use Rattle.words.proofs.lists.is_repeated.Given as goal

abbrev pub invariant-loop-i : goal.invariant-loop-i
invariant-loop-i l = Unfound (λ j. among (get_or l.words j 0) (take j l.words)) (length l.words) l.i
