use Rattle.passes.proofs.Worked.{Stretched}
use Rattle.passes.proofs.stretches.ThreePass.pass_sets.Given as goal

abbrev pub invariant-loop-i : goal.invariant-loop-i
invariant-loop-i l = Stretched 3 l.spacing l.initial.part l.i l.part
