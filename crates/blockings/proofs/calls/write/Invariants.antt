use Rattle.algebra.specs.Laws.Collected.{Collected}
use Rattle.blockings.specs.Blockings.{is_blocking}
use Rattle.blockings.specs.Inner.Numbered.{words_at}
use Rattle.blockings.proofs.calls.write.Given as goal

abbrev pub invariant-loop-i : goal.invariant-loop-i
invariant-loop-i l = Collected l.words (is_blocking l.k) (words_at l.k l.words) l.all l.initial.column l.i l.n l.column
