use native.Mathlib.Omega.{arith}
use Rattle.algebra.specs.Laws.Gathered.{one_shifted}
use Rattle.blockwords.specs.Laws.Lists.{no-effects, effect-more, all-effects}
use Rattle.blockwords.proofs.list_lines.effects_text.Goals as goal

pub overflow_shl-word-end : goal.overflow_shl-word-end
overflow_shl-word-end c = omega (arith, c.requires.small)

pub loop-word-init : goal.loop-word-init
loop-word-init c = no-effects _ _

pub loop-word-preserved : goal.loop-word-preserved
loop-word-preserved c = effect-more _ _ c.is_confounded.ensures c.loop-word.invariant c.next_effect.ensures

pub returns : goal.returns
returns c =
    let all-is = one_shifted c.args.k 16 (omega (arith, c.requires.small)) in
    all-effects _ _ all-is (omega (arith, c.loop-word-test.false, c.loop-word.auto.word-end)) c.loop-word.invariant
