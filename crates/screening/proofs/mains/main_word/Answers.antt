use mathlib.Core.Path.{refl}
use native.Mathlib.Omega.{arith}
use borrow.Author.Tests.{lt-ltb, le-ltb}
use Rattle.algebra.specs.Laws.Gathered.{one_shifted}
use Rattle.screening.proofs.mains.main_word.Goals as goal

pub returns-then-i-k : goal.returns-then-i-k
returns-then-i-k c =
    let args = c.args in
    rw (one_shifted args.i 16 (omega arith), lt-ltb args.i args.k c.if-i-k.true) refl

pub returns : goal.returns
returns c = rw (le-ltb _ _ c.if-i-k.false) refl
