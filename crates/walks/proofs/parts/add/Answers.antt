use mathlib.Core.Path.{refl}
use native.Mathlib.Omega.{arith}
use Rattle.walks.specs.State.{brought, plus_at}
use Rattle.walks.proofs.Laws.Parts.{next-still}
use Rattle.walks.proofs.parts.add.Goals as goal

pub overflow_add-parts-3 : goal.overflow_add-parts-3
unfolding brought plus_at
overflow_add-parts-3 c = rw next-still (record { fits = omega (arith, c.requires.degree-fits) })

pub returns : goal.returns
unfolding brought plus_at
returns c = refl
