use mathlib.Core.Path.{refl}
use native.Mathlib.Nat.{one-le-pow}
use native.Mathlib.Omega.{arith}
use Rattle.algebra.specs.Laws.Gathered.{one_shifted}
use Rattle.aliases.proofs.effects.base_letters.Goals as goal

pub nonzero_rem-result : goal.nonzero_rem-result
nonzero_rem-result c = rw (one_shifted c.args.k 16 (omega arith)) (one-le-pow c.args.k 2 (omega arith))

pub returns : goal.returns
returns c = rw (one_shifted c.args.k 16 (omega arith)) refl
