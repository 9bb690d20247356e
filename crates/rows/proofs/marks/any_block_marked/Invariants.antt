use Rattle.plan.proofs.Laws.Combinations.{Trying}
use Rattle.rows.specs.Kinds.{marked}
use Rattle.rows.proofs.marks.any_block_marked.Given as goal

abbrev pub invariant-loop-choice : goal.invariant-loop-choice
invariant-loop-choice l = Trying l.words (marked l.marks) l.choice
