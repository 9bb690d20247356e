use Rattle.std.proofs.Common.{arith}
use Rattle.algebra.specs.Laws.Gathered.{one_shifted}
use Rattle.effects.proofs.Weighed.{three-none, three-fits, three-more, three-all}
use Rattle.effects.proofs.weighing.put_weights_of_three.Goals as goal

pub loop-q-init : goal.loop-q-init
loop-q-init c = rw c.requires.fresh (three-none c.args.k _ (omega (arith, one_shifted c.args.k 32 (omega arith))))

pub overflow_mul-weights : goal.overflow_mul-weights
overflow_mul-weights c = omega (arith, three-fits c.requires.known c.loop-q.invariant c.loop-q-test.true)

pub loop-q-preserved : goal.loop-q-preserved
loop-q-preserved c = three-more c.requires.known c.loop-q.invariant c.loop-q-test.true (omega arith) (omega arith) (omega arith)

pub returns : goal.returns
returns c = three-all c.requires.known c.loop-q.invariant c.loop-q-test.false
