use native.Mathlib.Nat.{pow-le-pow_right}
use native.Mathlib.Omega.{arith}
use Rattle.algebra.specs.Laws.Gathered.{gathered_none, gathered-small, gathered-more, gathered-all}
use Rattle.runs.specs.Run.{block_number}
use Rattle.runs.proofs.treatments.block_number.Goals as goal

pub loop-j-init : goal.loop-j-init
unfolding block_number
loop-j-init c = gathered_none _ _

pub put_if-block-requires : goal.put_if-block-requires
unfolding block_number
put_if-block-requires c = (omega arith, gathered-small c.loop-j.invariant)

pub loop-j-preserved : goal.loop-j-preserved
unfolding block_number
loop-j-preserved c =
    let inv = c.loop-j.invariant in
    gathered-more inv (omega arith) _ c.is_odd.ensures c.put_if-block.ensures

pub overflow_cast-result : goal.overflow_cast-result
unfolding block_number
overflow_cast-result c = record { fits = omega (arith, gathered-small c.loop-j.invariant, pow-le-pow_right {n = 2} (omega arith) {i = c.loop-j.j} {j = 4} (omega arith)) }

pub returns : goal.returns
unfolding block_number
returns c = gathered-all c.loop-j.invariant c.loop-j-test.false
