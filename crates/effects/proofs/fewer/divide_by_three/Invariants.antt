use Rattle.effects.proofs.Divided.{Divided}
use Rattle.effects.proofs.fewer.divide_by_three.Given as goal

abbrev pub invariant-loop-divisor : goal.invariant-loop-divisor
invariant-loop-divisor l = Divided l.initial.divisors l.divisor-index l.divisors
