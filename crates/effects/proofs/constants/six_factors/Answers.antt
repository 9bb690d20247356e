use mathlib.Core.Path.{refl}
use Rattle.algebra.specs.Tab.{tab_from}
use Rattle.contrasts.proofs.Factors.{three}
use Rattle.contrasts.specs.Totals.{divisor*}
use Rattle.effects.specs.Inner.Divisors.{six_factors}
use Rattle.effects.proofs.constants.six_factors.Goals as goal

-- the one computed test: all entries at once

pub returns : goal.returns
unfolding six_factors tab_from divisor* three
returns c = refl
