use mathlib.Core.Path.{refl}
use native.Mathlib.Omega.{arith}
use Rattle.effects.proofs.Filling.{singly-none, singly-more, singly-all}
use Rattle.effects.proofs.letters.put_rows_of_two.Goals as goal

pub loop-e-init : goal.loop-e-init
loop-e-init c = rw c.requires.1 (singly-none (λ j. j) 0 _)

pub loop-e-preserved : goal.loop-e-preserved
loop-e-preserved c = singly-more c.loop-e.invariant c.loop-e-test.true (omega arith) refl

pub returns : goal.returns
returns c = singly-all c.loop-e.invariant c.loop-e-test.false
