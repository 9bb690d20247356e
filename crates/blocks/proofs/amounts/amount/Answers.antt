use mathlib.Core.Path.{refl}
use Prim.Native.Nat.{◌+◌, ◌≤◌}
use native.Mathlib.Omega.{arith}
use Rattle.algebra.specs.Laws.Gathered.{one_shifted}
use Rattle.blocks.proofs.Apart.{small-held, differences-held, times-few}
use Rattle.blocks.proofs.amounts.amount.Goals as goal

pub squared_difference-requires : goal.squared_difference-requires
squared_difference-requires c = (small-held c.requires.1, small-held c.requires.2)

pub squared_difference-requires-2 : goal.squared_difference-requires-2
squared_difference-requires-2 c = (small-held c.requires.1, small-held c.requires.3)

pub overflow_add-apart : goal.overflow_add-apart
overflow_add-apart c = omega (arith, c.squared_difference.ensures.1, c.squared_difference-2.ensures.1)

pub squared_difference-requires-3 : goal.squared_difference-requires-3
squared_difference-requires-3 c = (small-held c.requires.2, small-held c.requires.3)

pub overflow_add-apart-2 : goal.overflow_add-apart-2
overflow_add-apart-2 c =
    let squares-few : c.squared_difference.result + c.squared_difference-2.result + c.squared_difference-3.result ≤ 125_829_120_000_000_000 = omega (arith, c.squared_difference.ensures.1, c.squared_difference-2.ensures.1, c.squared_difference-3.ensures.1) in
    omega (arith, squares-few)

pub overflow_shl-result : goal.overflow_shl-result
overflow_shl-result c = omega (arith, c.requires.0)

pub overflow_mul-result : goal.overflow_mul-result
overflow_mul-result c =
    let squares-few : c.squared_difference.result + c.squared_difference-2.result + c.squared_difference-3.result ≤ 125_829_120_000_000_000 = omega (arith, c.squared_difference.ensures.1, c.squared_difference-2.ensures.1, c.squared_difference-3.ensures.1) in
    rw (one_shifted c.args.k 64 (omega (arith, c.requires.0))) (record { fits = times-few c.requires.0 squares-few })

pub returns : goal.returns
returns c =
    let small = c.requires in
    rw (one_shifted c.args.k 64 (omega (arith, small.0)), differences-held small.1 small.2 c.squared_difference.ensures.0, differences-held small.1 small.3 c.squared_difference-2.ensures.0, differences-held small.2 small.3 c.squared_difference-3.ensures.0)
    refl
