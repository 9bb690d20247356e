use lib.ListN.{length, get_or}
use Rattle.algebra.specs.Laws.Fill.{Filled}
use Rattle.blockings.specs.Inner.Numbered.{word_at}
use Rattle.blockings.proofs.lists.put_list.Given as goal

abbrev pub invariant-loop-place : goal.invariant-loop-place
invariant-loop-place l = Filled (length l.initial.places) (word_at l.k (length l.initial.places) l.i) (λ j. get_or l.initial.places j 0) l.place l.places
