use native.Mathlib.Omega.{arith}
use Rattle.effects.proofs.Rowed.{three-none, three-fits, three-more}
use Rattle.effects.proofs.Filling.{threes-all}
use Rattle.effects.proofs.letters.put_rows_of_three.Goals as goal

pub loop-q-init : goal.loop-q-init
loop-q-init c = rw c.requires.2 (three-none _)

pub overflow_mul-moved : goal.overflow_mul-moved
overflow_mul-moved c = omega (arith, three-fits c.loop-q.invariant c.loop-q-test.true c.requires.1)

pub overflow_add-with_first : goal.overflow_add-with_first
overflow_add-with_first c = omega (arith, three-fits c.loop-q.invariant c.loop-q-test.true c.requires.1)

pub loop-q-preserved : goal.loop-q-preserved
loop-q-preserved c = three-more c.loop-q.invariant c.loop-q-test.true c.requires.1 (omega arith) (omega arith) (omega arith)

pub returns : goal.returns
returns c = threes-all c.loop-q.invariant c.requires.0 c.loop-q-test.false
