use mathlib.Core.Path.{refl}
use native.Mathlib.Nat.{pow-le-pow_right}
use native.Mathlib.Omega.{arith}
use Rattle.algebra.specs.Laws.Gathered.{one_shifted}
use Rattle.words.proofs.lists.choices.Goals as goal

pub returns-then-words-lt16-clause-few : goal.returns-then-words-lt16-clause-few
returns-then-words-lt16-clause-few c h =
    rw (one_shifted c.args.words 16 (omega arith)) (refl, pow-le-pow_right {n = 2} (omega arith) {i = c.args.words} {j = 4} (omega arith))
