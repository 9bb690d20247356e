use Prim.Native.Nat.{◌*◌}
use lib.ListN.{replicate}
use Rattle.contrasts.proofs.Factors.{three}
use Rattle.contrasts.specs.Totals.{divisor*}
use Rattle.effects.proofs.Filling.{Singly}
use Rattle.effects.proofs.shares.divisors_of_three.Given as goal

abbrev pub invariant-loop-e : goal.invariant-loop-e
invariant-loop-e l = Singly (λ j. l.repeats * divisor* (replicate l.k three) j) (λ j. 1) l.n l.e l.divisors
