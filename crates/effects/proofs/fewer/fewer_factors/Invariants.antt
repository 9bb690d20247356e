use Rattle.std.proofs.Common.{◌-◌}
use Rattle.effects.proofs.Divided.{Missing}
use Rattle.effects.proofs.fewer.fewer_factors.Given as goal

abbrev pub invariant-loop : goal.invariant-loop
invariant-loop l = Missing l.k (6 - (l.counter - l.k)) l.divisors
