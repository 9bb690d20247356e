use mathlib.Core.Path.{ap}
use Prim.Native.Nat.{ℕ, ◌+◌}
use native.Mathlib.Omega.{arith}
use Rattle.algebra.specs.Laws.Gathered.{room}
use Rattle.runs.proofs.powers.put_if.Goals as goal

pub overflow_add-result : goal.overflow_add-result
overflow_add-result c = record { fits = omega (arith, room c.args.n 16 (omega arith)) }

pub returns-then-test : goal.returns-then-test
returns-then-test c = rw c.if-test.true (ap (λ (m : ℕ). c.args.set + m) c.power.ensures)

pub returns-else-test : goal.returns-else-test
returns-else-test c = rw c.if-test.false (omega arith)
