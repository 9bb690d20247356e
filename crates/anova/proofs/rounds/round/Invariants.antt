use Prim.Native.Nat.{◌*◌, ◌≤◌}
use lib.ListN.{length}
use Rattle.anova.proofs.Rounded.{Rounding}
use Rattle.anova.proofs.rounds.round.Given as goal

abbrev pub invariant-loop-i : goal.invariant-loop-i
invariant-loop-i l = record {
  rounding : Rounding l.sets l.initial.column l.i l.column;
  room : 3 * l.sets ≤ length l.column;
}
