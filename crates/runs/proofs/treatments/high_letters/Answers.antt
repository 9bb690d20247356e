use mathlib.Core.Path.{◌≡◌, sym, ◌∙◌}
use Prim.Native.Nat.{ℕ, ◌+◌}
use native.Mathlib.Nat.{add-zero}
use native.Mathlib.Omega.{arith}
use Rattle.algebra.specs.Laws.Gathered.{gathered-small, gathered-more, gathered-all}
use Rattle.runs.specs.Laws.High.{base-high, added-high}
use Rattle.runs.specs.Run.{high_letters}
use Rattle.runs.proofs.treatments.high_letters.Goals as goal

pub loop-j-init : goal.loop-j-init
unfolding high_letters
loop-j-init c = record { within = omega arith; so = rw (add-zero c.args.k) (base-high _ _ _ _ c.requires.0) }

pub put_if-high-requires : goal.put_if-high-requires
unfolding high_letters
put_if-high-requires c = (omega arith, gathered-small c.loop-j.invariant)

pub loop-j-preserved : goal.loop-j-preserved
unfolding high_letters
loop-j-preserved c =
    let args = c.args in
    let j-now = c.loop-j.j in
    let inv = c.loop-j.invariant in
    let next : ◌≡◌ {A = ℕ} (args.k + (j-now + 1)) (args.k + j-now + 1) = omega arith in
    let high = c.is_high.ensures ∙ sym (added-high _ _ _ _ _) in
    rw next (gathered-more inv (omega arith) _ high c.put_if-high.ensures)

pub returns : goal.returns
unfolding high_letters
returns c = gathered-all c.loop-j.invariant (omega arith)
