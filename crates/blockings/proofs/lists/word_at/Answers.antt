use mathlib.Core.Path.{refl}
use native.Mathlib.Nat.{one-le-pow}
use native.Mathlib.Omega.{arith}
use Rattle.algebra.specs.Laws.Gathered.{one_shifted}
use Rattle.blockings.specs.Inner.Numbered.{word_at}
use Rattle.blockings.proofs.Listing.{short, fits, word_small}
use Rattle.blockings.proofs.lists.word_at.Goals as goal

pub overflow_mul-result : goal.overflow_mul-result
unfolding word_at
overflow_mul-result c = fits _ _ (omega arith) (omega arith)

pub overflow_shr-result : goal.overflow_shr-result
unfolding word_at
overflow_shr-result c = short _ _ (omega arith) (omega arith)

pub nonzero_rem-result : goal.nonzero_rem-result
unfolding word_at
nonzero_rem-result c = rw (one_shifted c.args.k 64 (omega arith)) (one-le-pow c.args.k 2 (omega arith))

pub overflow_cast-result : goal.overflow_cast-result
unfolding word_at
overflow_cast-result c = rw (one_shifted c.args.k 64 (omega arith)) (record { fits = word_small c.args.k _ (omega arith) })

pub returns : goal.returns
unfolding word_at
returns c = rw (one_shifted c.args.k 64 (omega arith)) refl
