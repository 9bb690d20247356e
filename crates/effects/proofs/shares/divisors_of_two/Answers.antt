use Rattle.std.proofs.Common.{◌≡◌, ◌≤◌, ◌*◌, rules, arith, replicate}
use Rattle.effects.proofs.Filling.{front}
use Rattle.effects.proofs.Shared.{times-fits}
use Rattle.effects.proofs.shares.divisors_of_two.Goals as goal

pub overflow_mul-divisor : goal.overflow_mul-divisor
overflow_mul-divisor c =
    let small : c.args.n ≤ 46656 = omega (arith, c.requires) in
    omega (arith, times-fits c.ranges.repeats.fits small)

pub returns : goal.returns
returns c = let filled : c.fill.new.self ≡ replicate c.args.n (c.args.repeats * c.args.n) = search rules in front (c.args.repeats * c.args.n) 1 (omega arith) filled
