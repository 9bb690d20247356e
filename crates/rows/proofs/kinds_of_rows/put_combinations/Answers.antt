use Rattle.std.proofs.Common.{arith, lit<}
use native.Mathlib.Nat.{one-le-pow}
use Rattle.rows.proofs.Putting.{blocking-none, blocking-more, blocking-all}
use Rattle.rows.proofs.kinds_of_rows.put_combinations.Goals as goal

pub loop-choice-init : goal.loop-choice-init
loop-choice-init c = blocking-none _ _ (one-le-pow _ 2 (lit< tt))

pub loop-choice-preserved : goal.loop-choice-preserved
loop-choice-preserved c = blocking-more c.loop-choice.invariant (omega arith) c.combine.ensures c.put.ensures

pub returns : goal.returns
returns c = blocking-all c.loop-choice.invariant (omega arith)
