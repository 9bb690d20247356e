use Rattle.algebra.specs.Laws.Collected.{Counted}
use Rattle.blockings.specs.Blockings.{is_blocking}
use Rattle.blockings.specs.Inner.Numbered.{words_at}
use Rattle.blockings.proofs.refusals.count.Given as goal

abbrev pub invariant-loop-i : goal.invariant-loop-i
invariant-loop-i l = Counted (is_blocking l.k) (words_at l.k l.words) l.all l.i l.n
