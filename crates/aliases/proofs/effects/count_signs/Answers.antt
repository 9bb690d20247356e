use native.Mathlib.Omega.{arith}
use Rattle.aliases.specs.Laws.Counted.{counted_none, counted-more, counted-all}
use Rattle.aliases.proofs.effects.count_signs.Goals as goal

pub loop-j-init : goal.loop-j-init
loop-j-init c = counted_none _ _

pub overflow_add-n : goal.overflow_add-n
overflow_add-n c = record { fits = omega arith }

pub loop-j-preserved : goal.loop-j-preserved
loop-j-preserved c =
    let inv = c.loop-j.invariant in
    let inside = c.loop-j-test.true in
    counted-more inv inside _ c.has_letter.ensures c.one_sign-n.ensures.0

pub returns : goal.returns
returns c = counted-all c.loop-j.invariant c.loop-j-test.false
