use mathlib.Core.Path.{refl}
use native.Mathlib.Omega.{arith}
use Rattle.screening.proofs.Forming.{forming-none, forming-more, forming-all}
use Rattle.screening.proofs.mains.main_words.Goals as goal

pub loop-i-init : goal.loop-i-init
loop-i-init c = forming-none _ _ _

pub loop-i-preserved : goal.loop-i-preserved
loop-i-preserved c = forming-more c.loop-i.invariant c.loop-i-test.true (omega arith) c.main_word.ensures

pub returns : goal.returns
returns c = forming-all c.loop-i.invariant refl (omega arith) (λ j h. (c.type_inv.words j).fits) c.loop-i-test.false
