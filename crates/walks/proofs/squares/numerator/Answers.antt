use mathlib.Core.Path.{refl, ◌∙◌}
use native.Mathlib.Omega.{arith}
use Rattle.algebra.proofs.Laws.Machine.{kept}
use Rattle.walks.proofs.Walked.{product-fits, product_is}
use Rattle.walks.proofs.squares.numerator.Goals as goal

pub square-requires : goal.square-requires
square-requires c = rw (kept _ c.ranges.total.sfits) (record { square-fits = c.requires.square-fits })

pub overflow_mul-result : goal.overflow_mul-result
overflow_mul-result c = omega (arith, product-fits c.requires (c.square.ensures ∙ rw (kept _ c.ranges.total.sfits) refl))

pub returns : goal.returns
returns c = product_is c.requires (c.square.ensures ∙ rw (kept _ c.ranges.total.sfits) refl)
