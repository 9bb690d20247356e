use Prim.Native.Nat.{◌*◌, ◌≤◌}
use native.Mathlib.Omega.{arith}
use Rattle.plan.proofs.Laws.Digits.{collecting, letter-few, letter-put, one-collected, collected}
use Rattle.plan.proofs.digits.row_of_digits.Goals as goal

pub loop-i-init : goal.loop-i-init
loop-i-init c = collecting _ _

pub overflow_mul-row : goal.overflow_mul-row
overflow_mul-row c =
    let small : c.loop-i.letter ≤ 64 = letter-few c.loop-i.invariant c.loop-i-test.true c.requires in
    let put : c.loop-i.letter * c.in_use.result ≤ c.loop-i.letter = letter-put c.loop-i.invariant c.loop-i-test.true c.in_use.ensures.1 in
    omega (arith, small, put)

pub overflow_add-row : goal.overflow_add-row
overflow_add-row c =
    let small : c.loop-i.letter ≤ 64 = letter-few c.loop-i.invariant c.loop-i-test.true c.requires in
    let put : c.loop-i.letter * c.in_use.result ≤ c.loop-i.letter = letter-put c.loop-i.invariant c.loop-i-test.true c.in_use.ensures.1 in
    let inv = c.loop-i.invariant in
    omega (arith, inv.few, small, put)

pub overflow_mul-letter : goal.overflow_mul-letter
overflow_mul-letter c =
    let small : c.loop-i.letter ≤ 64 = letter-few c.loop-i.invariant c.loop-i-test.true c.requires in
    omega (arith, small)

pub loop-i-preserved : goal.loop-i-preserved
loop-i-preserved c = one-collected c.loop-i.invariant c.loop-i-test.true c.in_use.ensures

pub returns : goal.returns
returns c = collected c.loop-i.invariant c.loop-i-test.false
