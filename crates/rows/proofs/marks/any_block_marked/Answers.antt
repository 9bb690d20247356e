use Rattle.std.proofs.Common.{arith}
use Rattle.algebra.specs.Laws.Tests.{is}
use Rattle.plan.proofs.Laws.Combinations.{trying, try-more, tried, tried-all}
use Rattle.rows.proofs.marks.any_block_marked.Goals as goal

pub loop-choice-init : goal.loop-choice-init
loop-choice-init c = trying

pub returns-then-is_marked : goal.returns-then-is_marked
returns-then-is_marked c = tried c.loop-choice.invariant (omega arith) (rw (← c.combine.ensures) (is c.is_marked.ensures c.if-is_marked.true))

pub loop-choice-preserved : goal.loop-choice-preserved
loop-choice-preserved c = try-more c.loop-choice.invariant (omega arith) (rw (← c.combine.ensures) (is c.is_marked.ensures c.if-is_marked.false))

pub returns : goal.returns
returns c = tried-all c.loop-choice.invariant (omega arith)
