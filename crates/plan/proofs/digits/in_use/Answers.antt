use mathlib.Core.Path.{refl}
use native.Mathlib.Omega.{arith}
use borrow.Author.Tests.{eq-eqb, ne_eqb}
use Rattle.plan.proofs.digits.in_use.Goals as goal

pub returns-then-digits-eq0 : goal.returns-then-digits-eq0
returns-then-digits-eq0 c = (rw (eq-eqb _ _ c.if-digits-eq0.true) refl, omega arith)

pub returns-else-digits-eq0 : goal.returns-else-digits-eq0
returns-else-digits-eq0 c = (rw (ne_eqb _ _ c.if-digits-eq0.false) refl, omega arith)
