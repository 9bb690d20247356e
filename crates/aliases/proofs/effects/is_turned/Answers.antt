use mathlib.Core.Path.{◌≡◌, refl}
use mathlib.Core.Bool.{Bool, true, false, cond, not, beq}
use Rattle.algebra.specs.Tests.{differ}
use Rattle.words.specs.Words.{odd, odd_word}
use Rattle.aliases.proofs.effects.is_turned.Goals as goal

-- `!=` of two tests, twice: effect and word are odd, and so is the number of signs
unequal : (effect word signs : Bool) → not (beq signs (not (beq effect word))) ≡ cond (differ effect word) (not signs) signs
unequal true true true = refl
unequal true true false = refl
unequal true false true = refl
unequal true false false = refl
unequal false true true = refl
unequal false true false = refl
unequal false false true = refl
unequal false false false = refl

pub returns : goal.returns
returns c =
    let args = c.args in
    rw (c.is_odd_word.ensures, c.is_odd_word-2.ensures) (unequal (odd_word args.effect) (odd_word args.word) (odd args.signs))
