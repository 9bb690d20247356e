use Prim.Native.Nat.{◌≤◌}
use native.Mathlib.Nat.{mul-le-mul}
use native.Mathlib.Omega.{arith}
use Rattle.plan.proofs.Laws.Limits.{reading-most}
use Rattle.sizes.proofs.limits.run_limit.Goals as goal

pub overflow_mul-result : goal.overflow_mul-result
overflow_mul-result c =
    let often : c.from.result ≤ 255 = omega arith in
    rw c.reading_limit.ensures (record { fits = omega (arith, mul-le-mul often (reading-most c.args.p)) })
