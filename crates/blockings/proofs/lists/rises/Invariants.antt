use Rattle.std.proofs.Common.{◌+◌, ◌-◌, length, get_or, leb}
use Rattle.algebra.specs.Laws.Searching.{Unfound}
use Rattle.blockings.proofs.lists.rises.Given as goal

abbrev pub invariant-loop-j : goal.invariant-loop-j
invariant-loop-j l = Unfound (λ i. leb (get_or l.words (i + 1) 0) (get_or l.words i 0)) (length l.words - 1) (l.j - 1)
