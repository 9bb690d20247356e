use Rattle.std.proofs.Common.{ltb, length, get_or}
use Rattle.algebra.specs.Laws.Searching.{Seen}
use Rattle.rows.proofs.marks.any_over.Given as goal

abbrev pub invariant-loop-mark : goal.invariant-loop-mark
invariant-loop-mark l = Seen (λ i. ltb 1 (get_or l.marks i 0)) (length l.marks) l.mark-index l.any
