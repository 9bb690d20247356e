use lib.ListN.{length}
use Rattle.algebra.specs.Laws.Searching.{Unfound}
use Rattle.screening.specs.Inner.Formed.{pairs_with}
use Rattle.screening.proofs.pairs.any_met.Given as goal

abbrev pub invariant-loop-j : goal.invariant-loop-j
invariant-loop-j l = Unfound (λ j. pairs_with j l.words l.mains) (length l.words) l.j
