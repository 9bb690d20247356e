use mathlib.Core.Path.{refl}
use Prim.Native.Nat.{◌*◌}
use native.Mathlib.Omega.{arith}
use Rattle.algebra.specs.Laws.Gathered.{one_shifted}
use Rattle.blockings.proofs.Listing.{short, fits, lists-few}
use Rattle.blockings.proofs.lists.all_lists.Goals as goal

pub overflow_mul-result : goal.overflow_mul-result
overflow_mul-result c = fits _ _ (omega arith) (omega arith)

pub overflow_shl-result : goal.overflow_shl-result
overflow_shl-result c = short _ _ (omega arith) (omega arith)

pub returns : goal.returns
returns c = rw (one_shifted (c.args.k * c.args.words) 64 (short _ _ (omega arith) (omega arith))) (refl, lists-few _ _ (omega arith) (omega arith))
